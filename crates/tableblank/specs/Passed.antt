-- What rows that pass the checks are known by: each check, told as what holds. Like Laws, it stands here and not among the proofs, since a
-- table's proof of its laws is part of what it is.
use Rattle.std.proofs.Common.{inl, inr}
use Rattle.std.specs.Prelude.{ℕ, ◌<◌, length, slice_index}
use Rattle.table.specs.Table.{Rows, states, Shape, Ends, Holds, GoodTarget, GoodCost, GoodEstimate, GoodSlope, shape, ends, target, cost, estimate, slope, Passes}
use Rattle.table.proofs.Decided.{d_le, d_and, d_shape, d_ends, d_target, d_estimate, d_slope}

module _ (r : Rows) (p : Passes r) where
  pub passes_shape : Shape r
  passes_shape = elim (d_shape r) [ inl s ↦ s | inr f ↦ absurd (p 5 0 (shape f)) ]

  pub passes_ends : Ends r
  passes_ends = elim (d_ends r) [ inl s ↦ s | inr f ↦ absurd (p 6 0 (ends f)) ]

  pub passes_target : (u e : ℕ) → Holds r u e → GoodTarget r u e
  passes_target u e h = elim (d_target r u e) [ inl g ↦ g | inr f ↦ absurd (p 7 e (target u e h f)) ]

  pub passes_cost : (e : ℕ) → e < length r.costs → GoodCost (slice_index r.costs e)
  passes_cost e h =
      elim (d_and (d_le 1 (slice_index r.costs e)) (d_le (slice_index r.costs e) 1000)) [ inl g ↦ g | inr f ↦ absurd (p 8 e (cost e h f)) ]

  pub passes_estimate : (s : ℕ) → s < states r → GoodEstimate r s
  passes_estimate s h = elim (d_estimate r s) [ inl g ↦ g | inr f ↦ absurd (p 9 s (estimate s h f)) ]

  pub passes_slope : (u e : ℕ) → Holds r u e → GoodSlope r u e
  passes_slope u e h = elim (d_slope r u e) [ inl g ↦ g | inr f ↦ absurd (p 10 e (slope u e h f)) ]
