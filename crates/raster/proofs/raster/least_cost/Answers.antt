use Rattle.std.proofs.Common.{◌≡◌, ℕ, suc, refl, slice_index, ◌≤◌, List, [], ◌∷◌, rules, tests, ◌∙◌, ap, sym, arith, min, true, false, cond, eqb, not}
use Rattle.std.specs.Prelude.{unwrap_or, filter, fold}
use Rattle.std.specs.List.{reduce}
use Rattle.std.proofs.lemmas.Iterator.{YieldsList-from_slice}
use Rattle.std.proofs.lemmas.Iterator.Adapters.{option_map_id}
use Rattle.std.proofs.lemmas.Iterator.Consumers.{YieldsList-from_copied, YieldsList-from_filter, YieldsList-at, min_from_yields_List}
use Rattle.raster.specs.Rastered.{least_cost}
use Rattle.raster.proofs.raster.least_cost.Goals as goal

-- The bytes above 0, and the least of them and of what was found before.
abbrev open_bytes : List ℕ → List ℕ
open_bytes bytes = filter (λ b. not (eqb b 0)) bytes

least_after : (a : ℕ) (bytes : List ℕ) → a ≤ 255 → fold min a (open_bytes bytes) ≡ min a (least_cost bytes)
least_after a [] h = omega arith
least_after a (b ∷ bs) h =
    elim (eqb b 0) as (λ e. fold min a (cond (not e) (b ∷ open_bytes bs) (open_bytes bs)) ≡ min a (cond e (least_cost bs) (min (least_cost bs) b))) [
      | true ↦ least_after a bs h
      | false ↦ omega (arith, least_after (min a b) bs (omega arith))
    ]

least_open : (bytes : List ℕ) → ((i : ℕ) → slice_index bytes i ≤ 255) → unwrap_or (reduce min (open_bytes bytes)) 255 ≡ least_cost bytes
least_open [] h = refl
least_open (b ∷ bs) h =
    elim (eqb b 0) as (λ e. unwrap_or (reduce min (cond (not e) (b ∷ open_bytes bs) (open_bytes bs))) 255 ≡ cond e (least_cost bs) (min (least_cost bs) b)) [
      | true ↦ least_open bs (λ i. h (suc i))
      | false ↦ omega (arith, least_after b bs (h 0))
    ]

pub returns-clause-is : goal.returns-clause-is
returns-clause-is c =
    let picked : c.min.result ≡ reduce min (open_bytes c.args.bytes.now) =
    sym (option_map_id _) ∙ min_from_yields_List _ _ c.min.ensures.ran
    (YieldsList-from_filter _ (λ b. not (eqb b 0)) (YieldsList-at c.filter.ensures.source (YieldsList-from_copied (YieldsList-at c.copied.ensures.source (YieldsList-from_slice c.args.bytes.now c.iter.ensures.rest)))) c.filter.ensures.closure (λ x r q k. search (rules, tests))) in
    c.unwrap_or.ensures ∙ ap (λ o. unwrap_or o 255) picked ∙ least_open c.args.bytes.now (λ i. omega (arith, c.type_inv.bytes i))
