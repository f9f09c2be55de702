-- What functions inside the crate promise: no public clause names these.
use Rattle.std.specs.Prelude.{◌≡◌, ℕ, ◌<◌, ◌≤◌, Bool, true, List, length, ◌≢◌, slice_index_or}
use Rattle.std.specs.List.Sorted.{IsPermutation}

-- At b there is a rank that no rank of the list goes before.
abbrev pub IsEarliest : {R : Type 0} → (R → R → Bool) → List R → ℕ → Type 0
IsEarliest {R} precedes xs b = (b < length xs) × ((k : ℕ) (d : R) → k < length xs → precedes (slice_index_or xs b d) (slice_index_or xs k d) ≡ true)

-- The ranks of a list were moved so that those below stay carry another state than struck, and the others carry it.
pub record Parts {R : Type 0} (state : R → ℕ) (struck : ℕ) (xs ys : List R) (stay : ℕ) : Type 0 where
  pub within : stay ≤ length xs
  pub clear : (k : ℕ) (d : R) → k < stay → state (slice_index_or ys k d) ≢ struck
  pub gone : (k : ℕ) (d : R) → stay ≤ k → k < length xs → state (slice_index_or ys k d) ≡ struck
  pub held : IsPermutation xs ys
