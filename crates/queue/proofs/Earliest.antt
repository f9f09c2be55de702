-- The search for a first rank. Assumes nothing.
use Rattle.std.proofs.Common.{◌≡◌, ℕ, ◌<◌, Bool, true, false, cond, List, [], ◌∷◌, map, length, get_or, Bor, None, Some, Option, MatchOption, inl, inr, sym, ap, ◌∙◌, subst, ap₂, arith}
use Rattle.std.proofs.lemmas.Bool.{both_ways, cases_Bool}
use Rattle.std.proofs.lemmas.Iterator.{YieldsList, items_from_drains}
use Rattle.std.proofs.lemmas.List.{get_or-map, get_or_default, length-map}
use Rattle.std.proofs.lemmas.List.Elements.{All-nil, All-cons, All-head, All-tail}
use Rattle.std.proofs.lemmas.List.FromFn.{length-enumerate_from, get_or-enumerate_from}
use Rattle.std.specs.Fn.{Called}
use Rattle.std.specs.Iterator.{FoldTurn, ReducesItems}
use Rattle.std.specs.List.{All, FoldsTo, enumerate_from}
use denote.Param.Members.{Mut}
use Rattle.rank.specs.Orders.{LawfulOrder}
use Rattle.queue.specs.Inside.{IsEarliest}

-- A rank with its place, as the search goes over them.
abbrev pub Placed : Type 0 → Type 0
Placed R = ℕ × Bor R

module _ {R : Type 0} {state : R → ℕ} {precedes : R → R → Bool} (law : LawfulOrder state precedes) where
  precedes_itself : (x : R) → precedes x x ≡ true
  precedes_itself x = elim (law.total x x) [ inl e ↦ e | inr e ↦ e ]

  from_later : (x y : R) → precedes x y ≡ false → precedes y x ≡ true
  from_later x y no_first = elim (law.total x y) [ inl e ↦ absurd (both_ways (precedes x y) no_first e) | inr e ↦ e ]

  module _ {F : Type 0} (g : Mut F (Placed R × (Placed R × Unit {0})) (Placed R))
      (says : (f : F) (x y z : Placed R) (f' : F) → Called g f (x, (y, tt)) z f' → z ≡ cond (precedes y.1.now x.1.now) y x) where
    -- what holds of all that are searched holds of the one that is found
    found : (Q : Placed R → Type 0) (x z : Placed R) (xs : List (Placed R)) (f f' : F) → FoldsTo {P = F × Placed R} (FoldTurn g) (f, x) xs (f', z)
        → Q x → All Q xs → Q z
    found Q x z [] f f' e q all = subst Q (ap (λ p. p.1) e) q
    found Q x z (y ∷ ys) f f' run q all =
        let turn = run.1 in
        let next : Q run.0.1 = elim (cases_Bool (precedes y.1.now x.1.now)) [
          | inl so ↦ subst Q (sym (says f x y run.0.1 run.0.0 turn ∙ ap (λ b. cond b y x) so)) (All-head Q y ys all)
          | inr none ↦ subst Q (sym (says f x y run.0.1 run.0.0 turn ∙ ap (λ b. cond b y x) none)) q
        ] in
        found Q run.0.1 z ys run.0.0 f' run.2 next (All-tail Q y ys all)

    -- the one that is found goes before each that is searched
    leads : (x z : Placed R) (xs : List (Placed R)) (f f' : F) → FoldsTo {P = F × Placed R} (FoldTurn g) (f, x) xs (f', z)
        → All (λ y. precedes z.1.now y.1.now ≡ true) (x ∷ xs)
    leads x z [] f f' e =
        let P : Placed R → Type 0 = λ k. precedes z.1.now k.1.now ≡ true in
        All-cons P x [] (subst (λ k. precedes k.1.now x.1.now ≡ true) (ap (λ p. p.1) e) (precedes_itself x.1.now)) (All-nil P)
    leads x z (y ∷ ys) f f' run =
        let P : Placed R → Type 0 = λ k. precedes z.1.now k.1.now ≡ true in
        let rest : All P (run.0.1 ∷ ys) = leads run.0.1 z ys run.0.0 f' run.2 in
        let here : P run.0.1 = All-head P run.0.1 ys rest in
        let both : P x × P y = elim (cases_Bool (precedes y.1.now x.1.now)) [
          | inl so ↦
              let e : run.0.1 ≡ y = says f x y run.0.1 run.0.0 run.1 ∙ ap (λ b. cond b y x) so in
              (law.onward _ _ _ (subst P e here) so, subst P e here)
          | inr none ↦
              let e : run.0.1 ≡ x = says f x y run.0.1 run.0.0 run.1 ∙ ap (λ b. cond b y x) none in
              (subst P e here, law.onward _ _ _ (subst P e here) (from_later _ _ none))
        ] in
        All-cons P x (y ∷ ys) both.0 (All-cons P y ys both.1 (All-tail P run.0.1 ys rest))

    -- what `reduce` finds over the ranks xs, each with its place
    pub earliest_reduced : {S : Type 0} {steps : S → Option (Placed R) → S → Type 0} {s : S} (xs : List R) (f : F) (r : Option (Placed R))
        → ReducesItems steps g s f r → YieldsList {B = ℕ × R} steps (λ p. (p.0, p.1.now)) s (enumerate_from 0 xs)
        → MatchOption r (length xs ≡ 0) (λ z. IsEarliest precedes xs z.0)
    earliest_reduced xs f None d yields =
        let e = items_from_drains [] (d.1.0, d.1.1, λ _. (d.0, d.1.2)) yields in
        sym (length-enumerate_from 0 xs) ∙ ap length (sym e)
    earliest_reduced xs f (Some z) (x, ys, f', d, run) yields =
        let v : Placed R → ℕ × R = λ p. (p.0, p.1.now) in
        let all : List (Placed R) = x ∷ ys in
        let e : map v all ≡ enumerate_from 0 xs = items_from_drains all (d.1.0, d.1.1, λ _. (d.0, d.1.2)) yields in
        let long : length all ≡ length xs = sym (length-map all v) ∙ ap length e ∙ length-enumerate_from 0 xs in
        let at : (k : ℕ) (p : Placed R) → k < length xs → ((get_or all k p).0 ≡ k) × ((d : R) → (get_or all k p).1.now ≡ get_or xs k d) = λ k p h.
        let here = sym (get_or-map v all k p (v p) (omega arith)) ∙ ap (λ l. get_or l k (v p)) e ∙ get_or-enumerate_from 0 xs k (v p) h in
        (ap (λ w. w.0) here ∙ omega arith, λ d. ap (λ w. w.1) here ∙ get_or_default xs k p.1.now d h)
        in
        let Q : Placed R → Type 0 = λ p. (p.0 < length xs) × ((d : R) → p.1.now ≡ get_or xs p.0 d) in
        let placed : All Q all = λ k p h.
        let here = at k p (omega arith) in
        (omega (arith, here.0), λ d. here.1 d ∙ ap (λ j. get_or xs j d) (sym here.0))
        in
        let one : Q z = found Q x z ys f f' run (All-head Q x ys placed) (All-tail Q x ys placed) in (
          one.0,
          λ k d h. ap₂ precedes (sym (one.1 d)) (sym ((at k x h).1 d)) ∙ leads x z ys f f' run k x (omega arith),
        )
