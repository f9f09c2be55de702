-- The blank that the rows of a table spell.
use Rattle.std.specs.Prelude.{ℕ, ◌+◌, ◌-◌, List, map, Some, Option, slice_index}
use Rattle.std.specs.List.{range_with_len}
use Rattle.course.specs.Blanks.{Meaning}
use Rattle.table.specs.Table.{Rows, states}

-- The first entry of state u, and how many entries it has: they end where those of the next state begin. A number that is no state has none.
abbrev pub first : Rows → ℕ → ℕ
first r u = slice_index r.firsts u

abbrev pub entries : Rows → ℕ → ℕ
entries r u = first r (u + 1) - first r u

-- The cut at an entry.
abbrev pub entry : Rows → ℕ → Option (ℕ × ℕ)
entry r e = Some (slice_index r.targets e, slice_index r.costs e)

-- The places of state u: its entries in their order, each a cut.
abbrev pub row : Rows → ℕ → List (Option (ℕ × ℕ))
row r u = map (entry r) (range_with_len (first r u) (entries r u))

abbrev pub tabled : Rows → Meaning
tabled r =
    record {
      states = states r;
      start = r.start;
      goal = r.goal;
      places = row r;
      estimate = λ u. slice_index r.estimates u;
    }
