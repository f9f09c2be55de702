-- The rows of a document that was read fit together.
use Rattle.std.proofs.Common.{◌≡◌, ℕ, zero, suc, ◌+◌, ◌<◌, ◌≤◌, List, [], ◌∷◌, map, length, get_or, sym, refl, ap, ◌∙◌, add-one, arith}
use Rattle.std.specs.List.{flat_map}
use Rattle.std.proofs.lemmas.List.{length-append, length-map}
use Rattle.text.specs.Document.{Cut, Document, WellFormed, total}
use Rattle.table.specs.Table.{Shape}
use Rattle.text.specs.Rows.{firsts_after, table_rows}

firsts_many : (e : ℕ) (css : List (List Cut)) → length (firsts_after e css) ≡ length css + 1
firsts_many e [] = refl
firsts_many e (cs ∷ css) = omega (arith, firsts_many (e + length cs) css)

firsts_first : (e : ℕ) (css : List (List Cut)) → get_or (firsts_after e css) 0 0 ≡ e
firsts_first e [] = refl
firsts_first e (cs ∷ css) = refl

firsts_last : (e : ℕ) (css : List (List Cut)) → get_or (firsts_after e css) (length css) 0 ≡ e + total css
firsts_last e [] = omega arith
firsts_last e (cs ∷ css) = omega (arith, firsts_last (e + length cs) css)

firsts_rise : (e : ℕ) (css : List (List Cut)) (u : ℕ) → u < length css → get_or (firsts_after e css) u 0 ≤ get_or (firsts_after e css) (suc u) 0
firsts_rise e [] u h = absurd (omega arith)
firsts_rise e (cs ∷ css) zero h = omega (arith, firsts_first (e + length cs) css)
firsts_rise e (cs ∷ css) (suc u) h = firsts_rise (e + length cs) css u (omega arith)

-- A row with one number for each cut has as many as there are cuts.
pub row_many : (f : Cut → ℕ) (css : List (List Cut)) → length (flat_map (map f) css) ≡ total css
row_many f [] = refl
row_many f (cs ∷ css) = omega (arith, length-append (map f cs) (flat_map (map f) css), length-map cs f, row_many f css)

pub read_shape : (d : Document) → WellFormed d → Shape (table_rows d)
read_shape d h =
    let lines : length d.cuts ≡ length d.estimates = h.lines ∙ sym h.estimates_all in
    let cuts = row_many (λ c. c.target) d.cuts in
    record {
      enough = omega (arith, h.enough, h.estimates_all);
      few = omega (arith, h.few, h.estimates_all);
      one_more = omega (arith, firsts_many 0 d.cuts);
      from_nought = firsts_first 0 d.cuts;
      rising = λ u k. rw add-one (firsts_rise 0 d.cuts u (omega arith));
      to_the_end = ap (λ n. get_or (firsts_after 0 d.cuts) n 0) (sym lines) ∙ omega (arith, firsts_last 0 d.cuts);
      alike = cuts ∙ sym (row_many (λ c. c.cost) d.cuts);
      cuts_few = omega (arith, h.cuts_few);
    }
