-- Ranks that are parted by their state, from the first one on. Assumes nothing.
use Rattle.std.proofs.Common.{◌≡◌, ℕ, ◌+◌, ◌-◌, ◌<◌, ◌≤◌, List, length, get_or, ap, sym, ◌∙◌, ⊎_elim, arith, below_more}
use Rattle.std.proofs.lemmas.List.{get_or_read}
use Rattle.std.proofs.lemmas.List.Sorted.{IsPermutation-refl, IsPermutation-trans}
use Rattle.std.proofs.lemmas.Bool.{cases_eq}
use Rattle.std.specs.List.{SwappedAt}
use Rattle.std.specs.List.Sorted.{IsPermutation}
use Rattle.queue.specs.Inside.{Parts}

-- ys is the list so far. Of its ranks none below i carries the state s, and each from stay on does.
pub record Parting {R : Type 0} (state : R → ℕ) (s : ℕ) (xs ys : List R) (i stay : ℕ) : Type 0 where
  pub low : i ≤ stay
  pub high : stay ≤ length xs
  pub clear : (k : ℕ) (d : R) → k < i → state (get_or ys k d) ≡ s → ⊥
  pub gone : (k : ℕ) (d : R) → stay ≤ k → k < length xs → state (get_or ys k d) ≡ s
  pub held : IsPermutation xs ys

past : (k m : ℕ) → m - 1 ≤ k → (k ≡ m - 1 → ⊥) → m ≤ k
past k m h ne = omega arith

module _ {R : Type 0} (state : R → ℕ) (s : ℕ) (xs : List R) where
  pub parting_none : Parting state s xs xs 0 (length xs)
  parting_none = record {
    low = omega arith;
    high = omega arith;
    clear = λ k d h e. omega arith;
    gone = λ k d h l. absurd (omega arith);
    held = IsPermutation-refl xs;
  }

  -- the one at i, x, stays
  pub parting_stays : (ys : List R) (i stay : ℕ) (x : R) → Parting state s xs ys i stay → i < stay → length ys ≡ length xs → x ≡ get_or ys i x
      → (state x ≡ s → ⊥) → Parting state s xs ys (i + 1) stay
  parting_stays ys i stay x inv before long rx other =
      let il : i < length ys = omega (arith, inv.high) in
      record {
        low = omega arith;
        high = inv.high;
        clear = λ k d.
            below_more (λ j. state (get_or ys j d) ≡ s → ⊥) i (λ j h. inv.clear j d h) (λ e. other (ap state (get_or_read ys i x il rx d) ∙ e)) k;
        gone = inv.gone;
        held = inv.held;
      }

  -- the one at i, x, goes behind all that stay
  pub parting_goes : (ys zs : List R) (i stay : ℕ) (x : R) → Parting state s xs ys i stay → i < stay → length ys ≡ length xs → x ≡ get_or ys i x
      → state x ≡ s → IsPermutation ys zs → SwappedAt ys zs i (stay - 1) → Parting state s xs zs i (stay - 1)
  parting_goes ys zs i stay x inv before long rx same moved at =
      let il : i < length ys = omega (arith, inv.high) in
      record {
        low = omega arith;
        high = omega (arith, inv.high);
        clear = λ k d h e. inv.clear k d h (ap state (sym (at.2 k d (λ q. omega arith) (λ q. omega arith))) ∙ e);
        gone = λ k d h l.
            ⊎_elim (λ (q : k ≡ stay - 1). ap (λ j. state (get_or zs j d)) q ∙ ap state (at.1 d ∙ sym (get_or_read ys i x il rx d)) ∙ same)
            (λ (q : k ≡ stay - 1 → ⊥). ap state (at.2 k d (λ r. q (omega arith)) q) ∙ inv.gone k d (past k stay h q) l) (cases_eq k (stay - 1));
        held = IsPermutation-trans xs ys zs inv.held moved;
      }

  pub parting_all : (ys : List R) (i stay : ℕ) → Parting state s xs ys i stay → stay ≤ i → Parts state s xs ys stay
  parting_all ys i stay inv done = record {
    within = inv.high;
    clear = λ k d h. inv.clear k d (omega arith);
    gone = inv.gone;
    held = inv.held;
  }
