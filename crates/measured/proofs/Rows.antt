-- The rows of the pieces: those of P and R pass the checks, and those of P with too steep an estimate do not.
use Rattle.std.proofs.Common.{◌≡◌, ℕ, zero, suc, ◌+◌, ◌<◌, ◌≤◌, ◌⊎◌, [], ◌∷◌, map, length, get_or, refl, ap, subst, inr, arith}
use Rattle.std.specs.List.{range_with_len}
use Rattle.course.specs.Blanks.{SameMeaning}
use Rattle.course.specs.Worked.{P}
use Rattle.table.specs.Table.{Rows, states, Shape, Ends, Holds, GoodTarget, GoodCost, GoodEstimate, GoodSlope, Bad, shape, ends, target, cost, estimate, slope, Passes, Worst}
use Rattle.tableblank.specs.Tabled.{first, entry, row, tabled}
use Rattle.tableblank.specs.Laws.{none_outside}
use Rattle.measured.specs.Pieces.{rows_of_P, rows_of_R}

-- Nothing is wrong with the rows but, it may be, a slope.
record Fair (r : Rows) : Type 0 where
  shape : Shape r
  ends : Ends r
  targets : (u e : ℕ) → Holds r u e → GoodTarget r u e
  costs : (e : ℕ) → e < length r.costs → GoodCost (get_or r.costs e 0)
  estimates : (s : ℕ) → s < states r → GoodEstimate r s

-- Then they pass where every slope is good,
fair_passes : {r : Rows} → Fair r → ((u e : ℕ) → Holds r u e → GoodSlope r u e) → Passes r
fair_passes fair slopes c e (shape f) = f fair.shape
fair_passes fair slopes c e (ends f) = f fair.ends
fair_passes fair slopes c e (target u e1 h f) = f (fair.targets u e1 h)
fair_passes fair slopes c e (cost e1 h f) = f (fair.costs e1 h)
fair_passes fair slopes c e (estimate s h f) = f (fair.estimates s h)
fair_passes fair slopes c e (slope u e1 h f) = f (slopes u e1 h)

-- and the first entry is the worst where its slope is not.
fair_steep : {r : Rows} {u : ℕ} → Fair r → Holds r u 0 → (GoodSlope r u 0 → ⊥) → Worst r 10 0
fair_steep {r} {u} fair held steep = record { is = slope u 0 held steep; least = least }
  where
    least : (c e : ℕ) → Bad r c e → (10 < c) ⊎ ((10 ≡ c) × (0 ≤ e))
    least c e (shape f) = absurd (f fair.shape)
    least c e (ends f) = absurd (f fair.ends)
    least c e (target u e1 h f) = absurd (f (fair.targets u e1 h))
    least c e (cost e1 h f) = absurd (f (fair.costs e1 h))
    least c e (estimate s h f) = absurd (f (fair.estimates s h))
    least c e (slope u e1 h f) = inr (refl, omega arith)

-- FOUR STATES

-- What holds of the first four numbers.
by_number : (Q : ℕ → Type 0) → Q 0 → Q 1 → Q 2 → Q 3 → (u : ℕ) → u < 4 → Q u
by_number Q a b c d zero h = a
by_number Q a b c d (suc zero) h = b
by_number Q a b c d (suc (suc zero)) h = c
by_number Q a b c d (suc (suc (suc zero))) h = d
by_number Q a b c d (suc (suc (suc (suc u)))) h = absurd (omega arith)

-- From 0 to 3, with two cuts of 0, to 1 and 2, one of 1, and one of 2 to 3.
module _ (t c0 c1 c2 c3 h0 h1 h2 : ℕ) where
  abbrev four : Rows
  four = record {
    firsts = 0 ∷ 2 ∷ 3 ∷ 4 ∷ 4 ∷ [];
    targets = 1 ∷ 2 ∷ t ∷ 3 ∷ [];
    costs = c0 ∷ c1 ∷ c2 ∷ c3 ∷ [];
    estimates = h0 ∷ h1 ∷ h2 ∷ 0 ∷ [];
    start = 0;
    goal = 3;
  }

  -- Their entries.
  by_entry : (Q : ℕ → ℕ → Type 0) → Q 0 0 → Q 0 1 → Q 1 2 → Q 2 3 → (u e : ℕ) → Holds four u e → Q u e
  by_entry Q a b c d u e held = by_number (λ u. (e : ℕ) → first four u ≤ e → e < first four (u + 1) → Q u e) at_0 at_1 at_2 (λ e low high. absurd (omega arith)) u held.state e held.after held.before
    where
      at_0 : (e : ℕ) → 0 ≤ e → e < 2 → Q 0 e
      at_0 zero low high = a
      at_0 (suc zero) low high = b
      at_0 (suc (suc e)) low high = absurd (omega arith)

      at_1 : (e : ℕ) → 2 ≤ e → e < 3 → Q 1 e
      at_1 e low high = let is : 2 ≡ e = omega arith in subst (Q 1) is c

      at_2 : (e : ℕ) → 3 ≤ e → e < 4 → Q 2 e
      at_2 e low high = let is : 3 ≡ e = omega arith in subst (Q 2) is d

  four_fair : 2 ≤ t → t < 4 → GoodCost c0 → GoodCost c1 → GoodCost c2 → GoodCost c3 → h0 ≤ 1023000 → h1 ≤ 1023000 → h2 ≤ 1023000 → Fair four
  four_fair low high k0 k1 k2 k3 e0 e1 e2 = record {
    shape = record {
      enough = omega arith;
      few = omega arith;
      one_more = refl;
      from_nought = refl;
      rising = by_number (λ u. first four u ≤ first four (u + 1)) (omega arith) (omega arith) (omega arith) (omega arith);
      to_the_end = refl;
      alike = refl;
      cuts_few = omega arith;
    };
    ends = record { start_in = omega arith; goal_in = omega arith; apart = λ e. omega arith };
    targets = by_entry (GoodTarget four)
        (record { inside = omega arith; other = λ e. omega arith; above = λ h. omega arith })
        (record { inside = omega arith; other = λ e. omega arith; above = λ h. omega arith })
        (record { inside = omega arith; other = λ e. omega arith; above = λ h. absurd (omega arith) })
        (record { inside = omega arith; other = λ e. omega arith; above = λ h. absurd (omega arith) });
    costs = by_number (λ e. GoodCost (get_or four.costs e 0)) k0 k1 k2 k3;
    estimates = by_number (GoodEstimate four)
        (record { small = e0; nought = λ e. absurd (omega arith) })
        (record { small = e1; nought = λ e. absurd (omega arith) })
        (record { small = e2; nought = λ e. absurd (omega arith) })
        (record { small = omega arith; nought = λ e. refl });
  }

-- THE PIECES

fair_P : (h : ℕ) → h ≤ 1023000 → Fair (rows_of_P h)
fair_P h low = four_fair 3 30 50 60 20 h 10 20 (omega arith) (omega arith) (omega arith, omega arith) (omega arith, omega arith) (omega arith, omega arith) (omega arith, omega arith) low (omega arith) (omega arith)

pub P_passes : Passes (rows_of_P 40)
P_passes = fair_passes (fair_P 40 (omega arith)) (by_entry 3 30 50 60 20 40 10 20 (GoodSlope (rows_of_P 40)) (omega arith) (omega arith) (omega arith) (omega arith))

-- 41 is more than the cost 30 and the estimate 10 behind it.
pub P_steep : Worst (rows_of_P 41) 10 0
P_steep = fair_steep {u = 0} (fair_P 41 (omega arith)) (record { state = omega arith; after = omega arith; before = omega arith }) (λ good. omega arith)

pub R_passes : Passes rows_of_R
R_passes =
    fair_passes
    (four_fair 2 1 10 1 31 33 32 31 (omega arith) (omega arith) (omega arith, omega arith) (omega arith, omega arith) (omega arith, omega arith) (omega arith, omega arith) (omega arith) (omega arith) (omega arith))
    (by_entry 2 1 10 1 31 33 32 31 (GoodSlope rows_of_R) (omega arith) (omega arith) (omega arith) (omega arith))

-- The rows of P mean P.
P_places : (u : ℕ) → row (rows_of_P 40) u ≡ P.places u
P_places zero = refl
P_places (suc zero) = refl
P_places (suc (suc zero)) = refl
P_places (suc (suc (suc zero))) = refl
P_places (suc (suc (suc (suc u)))) =
    let v = suc (suc (suc (suc u))) in
    ap (λ (n : ℕ). map (entry (rows_of_P 40)) (range_with_len (first (rows_of_P 40) v) n)) (none_outside (rows_of_P 40) P_passes v (omega arith))

pub P_meant : SameMeaning (tabled (rows_of_P 40)) P
P_meant = record { states = refl; start = refl; goal = refl; places = P_places; estimate = λ u. refl }
