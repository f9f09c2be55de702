-- What take and strike leave. Assumes nothing.
use Rattle.std.proofs.Common.{◌≡◌, ℕ, ◌+◌, ◌-◌, ◌<◌, ◌≤◌, Bool, List, [], ◌∷◌, ◌++◌, length, get_or, take, drop, set, sym, ap, ap₂, ◌∙◌, subst, arith, drop-set-lt, length-take-le, get_or-take, take-append-drop}
use lib.Seq.{take-set-lt}
use Rattle.std.proofs.Math.Seq.{take-append_seam, drop-append_seam}
use Rattle.std.proofs.lemmas.List.{get_or_append_left, get_or_read, take_more}
use Rattle.std.proofs.lemmas.List.Edits.{swap_is, swapped_from_swap, length-swap}
use Rattle.std.proofs.lemmas.List.Sorted.{IsPermutation-swap, IsPermutation-append_left, length_permutation}
use Rattle.std.specs.List.{swap}
use Rattle.std.specs.List.Sorted.{IsPermutation}
use Rattle.queue.specs.Held.{Taken, Struck}
use Rattle.queue.specs.Inside.{IsEarliest, Parts}

module _ {R : Type 0} where
  -- the earliest one, at b, was exchanged with the last held one, and x, its state told, was read at the last place
  pub taken_out : (state : R → ℕ) (precedes : R → R → Bool) (s : ℕ) (xs ys : List R) (n b : ℕ) (x : R) → 0 < n → n ≤ length xs
      → IsEarliest precedes (take n xs) b → ys ≡ swap xs b (n - 1) → x ≡ get_or ys (n - 1) x → s ≡ state x
      → Taken state precedes s xs n ys (n - 1)
  taken_out state precedes s xs ys n b x pos le first is rx told =
      let m : ℕ = n - 1 in
      let front : List R = take n xs in
      let long : length front ≡ n = length-take-le n xs le in
      let bn : b < n = omega (arith, first.0) in
      let mn : m < n = omega arith in
      let bl : b < length xs = omega arith in
      let ml : m < length xs = omega arith in
      let by_sets : ys ≡ set (set xs b (get_or xs m x)) m (get_or xs b x) = is ∙ sym (swap_is xs b m x bl ml) in
      let part : take n ys ≡ swap front b m =
      ap (take n) by_sets ∙ take-set-lt n _ m _ mn ∙ ap (λ l. set l m (get_or xs b x)) (take-set-lt n xs b _ bn)
      ∙ ap₂ (λ v w. set (set front b v) m w) (sym (get_or-take n xs m x mn)) (sym (get_or-take n xs b x bn))
      ∙ swap_is front b m x (omega arith) (omega arith)
      in
      let ly : m < length ys = omega (arith, ap length is, length-swap xs b m) in
      let e : n ≡ m + 1 = omega arith in
      let behind : take n ys ≡ take m ys ++ x ∷ [] = ap (λ k. take k ys) e ∙ take_more ys m x ly ∙ ap (λ z. take m ys ++ z ∷ []) (sym rx) in
      record {
        fewer = e;
        out = x;
        told = told;
        first = λ k d kn.
            let at : x ≡ get_or front b d = get_or_read ys m x ly rx d ∙ (swapped_from_swap xs ys b m d bl ml is).1 ∙ sym (get_or-take n xs b d bn) in
            ap₂ precedes at (sym (get_or-take n xs k d kn)) ∙ first.1 k d (omega arith);
        held = subst (λ (l : List R). IsPermutation front l) behind (IsPermutation-swap front (take n ys) b m (omega arith) (omega arith) part);
        behind = behind;
        whole = IsPermutation-swap xs ys b m bl ml is;
        rest = ap (drop n) by_sets ∙ drop-set-lt n _ m _ mn ∙ drop-set-lt n xs b _ bn;
      }

  -- the first n of a row were parted
  pub struck_out : (state : R → ℕ) (s : ℕ) (row ys : List R) (n stay : ℕ) → n ≤ length row → Parts state s (take n row) ys stay
      → Struck state s (n - stay) row n (ys ++ drop n row) stay
  struck_out state s row ys n stay le p =
      let front : List R = take n row in
      let long : length front ≡ n = length-take-le n row le in
      let ly : length ys ≡ n = length_permutation front ys p.held ∙ long in
      record {
        count = omega (arith, p.within);
        clear = λ k d h e. p.clear k d h (ap state (sym (get_or_append_left ys (drop n row) d k (omega (arith, p.within)))) ∙ e);
        gone = λ k d h l. ap state (get_or_append_left ys (drop n row) d k (omega arith)) ∙ p.gone k d h (omega arith);
        held = subst (λ (l : List R). IsPermutation front l) (sym (ap (λ k. take k (ys ++ drop n row)) (sym ly) ∙ take-append_seam ys (drop n row))) p.held;
        whole = subst (λ (l : List R). IsPermutation l (ys ++ drop n row)) (take-append-drop n row) (IsPermutation-append_left (drop n row) front ys p.held);
        rest = ap (λ k. drop k (ys ++ drop n row)) (sym ly) ∙ drop-append_seam ys (drop n row);
      }
