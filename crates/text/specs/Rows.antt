-- The rows of a document's table: the cuts of all states one after another, as entries, and where the entries of each state begin.
use Rattle.std.specs.Prelude.{ℕ, ◌+◌, List, [], ◌∷◌, map, length}
use Rattle.std.specs.List.{flat_map}
use Rattle.table.specs.Table.{Rows}
use Rattle.text.specs.Document.{Document, Cut}

-- Where the entries of each state begin, if those of the first begin at e, and where those of the last end.
abbrev pub firsts_after : ℕ → List (List Cut) → List ℕ
firsts_after e [] = e ∷ []
firsts_after e (cs ∷ css) = e ∷ firsts_after (e + length cs) css

-- The targets, and the costs, of all entries.
abbrev pub targets_of : List (List Cut) → List ℕ
targets_of = flat_map (map (λ (c : Cut). c.target))

abbrev pub costs_of : List (List Cut) → List ℕ
costs_of = flat_map (map (λ (c : Cut). c.cost))

-- The rows that the table's checks look at.
abbrev pub table_rows : Document → Rows
table_rows d =
    record {
      firsts = firsts_after 0 d.cuts;
      targets = targets_of d.cuts;
      costs = costs_of d.cuts;
      estimates = d.estimates;
      start = d.start;
      goal = d.goal;
    }
