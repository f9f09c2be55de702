use Rattle.std.proofs.Common.{◌≡◌, ℕ, ◌+◌, ◌<◌, Bool, List, [], ◌∷◌, ◌++◌, length, take, drop, set, Ok, Err, Result, sym, refl, ap, ◌∙◌, subst, arith, take-append-drop, rules, MatchResult}
use Rattle.std.proofs.lemmas.List.Sorted.{IsPermutation-sym, IsPermutation-keeps}
use Rattle.std.specs.List.Sorted.{IsPermutation}
use Rattle.std.specs.List.{swap}
use Rattle.course.specs.Refusals.{number_of}
use Rattle.course.specs.declared.refusal.Refusal.{Refusal}
use Rattle.std.proofs.lemmas.Result.{err_from_is_err_and}
use Rattle.queue.specs.Held.{Unchanged, Put, Taken}
use Rattle.queue.proofs.tests.lent_and_back.Goals as goal

module _ {R : Type 0} where
  single : (x : R) (ys : List R) → IsPermutation (x ∷ []) ys → ys ≡ x ∷ []
  single x ys h =
      IsPermutation-keeps (x ∷ []) (λ l. l ≡ x ∷ []) refl
      (λ l i j il jl e.
      let i0 : i ≡ 0 = omega (arith, ap length e) in
      let j0 : j ≡ 0 = omega (arith, ap length e) in
      ap (λ (l : List R). swap l i j) e ∙ ap (λ k. swap (x ∷ []) k j) i0 ∙ ap (λ k. swap (x ∷ []) 0 k) j0)
      ys h

  first_set : (x : R) (row : List R) → 0 < length row → x ∷ drop 1 row ≡ set row 0 x
  first_set x [] h = absurd (omega arith)
  first_set x (y ∷ ys) h = refl

  came_back : (state : R → ℕ) (precedes : R → R → Bool) (s : ℕ) (x : R) (row row1 row2 : List R) (n0 n1 n2 : ℕ) → n0 ≡ 0
      → Put x row n0 row1 n1 → Taken state precedes s row1 n1 row2 n2 → (s ≡ state x) × (row2 ≡ set row 0 x)
  came_back state precedes s x row row1 row2 n0 n1 n2 none p t =
      let o : R = t.out in
      let e1 : n1 ≡ 1 = p.more ∙ ap (λ k. k + 1) none in
      let e2 : n2 ≡ 0 = omega (arith, t.fewer) in
      let was : IsPermutation (x ∷ []) (take n1 row1) =
      IsPermutation-sym _ _ (subst (λ k. IsPermutation (take n1 row1) (take k row ++ x ∷ [])) none p.held)
      in
      let now1 : take n1 row1 ≡ x ∷ [] = single x _ was in
      let now2 : take n2 row2 ++ o ∷ [] ≡ x ∷ [] = single x _ (subst (λ (l : List R). IsPermutation l (take n2 row2 ++ o ∷ [])) now1 t.held) in
      let alone : o ∷ [] ≡ x ∷ [] = ap (λ k. take k row2 ++ o ∷ []) (sym e2) ∙ now2 in
      let same : o ≡ x = cc in (
        t.told ∙ ap state same,
        sym (take-append-drop n1 row2) ∙ ap (λ (l : List R). l ++ drop n1 row2) (t.behind ∙ now2) ∙ ap (λ (l : List R). x ∷ l) (t.rest ∙ p.rest)
            ∙ ap (λ k. x ∷ drop k row) e1 ∙ first_set x row (omega (arith, p.room)),
      )

  ends : (state : R → ℕ) (precedes : R → R → Bool) (x : R) (row row1 row2 : List R) (n0 n1 n2 : ℕ) (a : Result ℕ Refusal) → n0 ≡ 0 → Put x row n0 row1 n1
      → MatchResult a (λ s. Taken state precedes s row1 n1 row2 n2) (λ e. (number_of e ≡ 40) × (n1 ≡ 0) × Unchanged row1 n1 row2 n2)
      → (last : List R) → last ≡ row2
      → MatchResult a (λ s. (s ≡ state x) × (last ≡ set row 0 x)) (λ e. (number_of e ≡ 39) × (last ≡ row))
  ends state precedes x row row1 row2 n0 n1 n2 (Ok s) none p t last is =
      let b = came_back state precedes s x row row1 row2 n0 n1 n2 none p t in
      (b.0, is ∙ b.1)
  ends state precedes x row row1 row2 n0 n1 n2 (Err e) none p t last is = absurd (omega (arith, p.more, t.1))

pub returns : goal.returns
returns g c =
    let p : Put c.args.rank c.args.row.now c.over-queue.result.len c.put.new.self.row.now c.put.new.self.len =
    subst (λ (l : List g.row.R.Denot). Put c.args.rank l c.over-queue.result.len c.put.new.self.row.now c.put.new.self.len) c.over-queue.ensures.whole c.in_ok-put.ensures.answer
    in
    ends g.R.Rank.state g.R.Rank.precedes _ c.args.row.now c.put.new.self.row.now c.take.new.self.row.now _ _ _ c.take.result c.over-queue.ensures.empty p c.take.ensures.answer _ (search rules)

pub returns-in_err-put : goal.returns-in_err-put
returns-in_err-put g c =
    let p = err_from_is_err_and c.from_residual.result c.from_residual.ensures.1 in
    let h = c.in_err-put.ensures in
    rw (p.1, p.2) (h.answer.0, search rules)
