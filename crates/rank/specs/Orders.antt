-- When one rank is no later than another.
use Rattle.std.specs.Prelude.{◌≡◌, ℕ, ◌*◌, Bool, true, cond, not, ◌&&◌, ◌||◌, ◌⊎◌, ◌==◌, nat_le}

-- The laws of an order by which ranks of a kind X are compared, where each carries a state: of two ranks at least one is no later than the
-- other; this carries over from two pairs to the third; two ranks each no later than the other carry the same state.
pub record LawfulOrder {X : Type 0} (state : X → ℕ) (precedes : X → X → Bool) : Type 0 where
  pub total : (a b : X) → (precedes a b ≡ true) ⊎ (precedes b a ≡ true)
  pub onward : (a b c : X) → precedes a b ≡ true → precedes b c ≡ true → precedes a c ≡ true
  pub same : (a b : X) → precedes a b ≡ true → precedes b a ≡ true → state a ≡ state b

-- By a test first, and by the smaller state where the test holds both ways.
abbrev pub by_state : {X : Type 0} → (X → X → Bool) → (X → ℕ) → X → X → Bool
by_state test state a b = test a b && (not (test b a) || nat_le (state a) (state b))

-- The over of a quotient over/under, where an under of 0 counts as the quotient 1/0, which is above every other.
abbrev pub weight : ℕ → ℕ → ℕ
weight over under = cond (under == 0) 1 over

-- The quotient over/under is no smaller than the quotient over'/under', compared by products, so exactly.
abbrev pub no_smaller_share : ℕ → ℕ → ℕ → ℕ → Bool
no_smaller_share over under over' under' = nat_le (weight over' under' * under) (weight over under * under')
