-- A table as four rows of numbers, and what may be wrong with it: which places are bad, and for which cause.
use Rattle.std.specs.Prelude.{◌≡◌, ℕ, ◌+◌, ◌-◌, ◌<◌, ◌≤◌, ◌⊎◌, List, length, slice_index, slice_index_or}

-- The rows of a table. The entries of the cuts of state u are those from firsts[u] up to, not including, firsts[u + 1].
pub record Rows : Type 0 where
  pub firsts : List ℕ
  pub targets : List ℕ
  pub costs : List ℕ
  pub estimates : List ℕ
  pub start : ℕ
  pub goal : ℕ

-- There is an estimate for each state.
abbrev pub states : Rows → ℕ
states r = length r.estimates

-- The rows fit together.
pub record Shape (r : Rows) : Type 0 where
  pub enough : 2 ≤ states r
  pub few : states r ≤ 1024
  pub one_more : length r.firsts ≡ states r + 1
  pub from_nought : slice_index_or r.firsts 0 0 ≡ 0
  pub rising : (u : ℕ) → u < states r → slice_index r.firsts u ≤ slice_index r.firsts (u + 1)
  pub to_the_end : slice_index_or r.firsts (states r) 0 ≡ length r.targets
  pub alike : length r.targets ≡ length r.costs
  pub cuts_few : length r.targets ≤ 8192

-- Start and goal are two states.
pub record Ends (r : Rows) : Type 0 where
  pub start_in : r.start < states r
  pub goal_in : r.goal < states r
  pub apart : r.start ≡ r.goal → ⊥

-- Entry e is a cut of state u.
pub record Holds (r : Rows) (u e : ℕ) : Type 0 where
  pub state : u < states r
  pub after : slice_index_or r.firsts u 0 ≤ e
  pub before : e < slice_index r.firsts (u + 1)

-- The cut at entry e of state u leads to another state, with a larger number than the target before it in the same state.
pub record GoodTarget (r : Rows) (u e : ℕ) : Type 0 where
  pub inside : slice_index_or r.targets e 0 < states r
  pub other : slice_index_or r.targets e 0 ≡ u → ⊥
  pub above : slice_index_or r.firsts u 0 < e → slice_index r.targets (e - 1) < slice_index r.targets e

abbrev pub GoodCost : ℕ → Type 0
GoodCost c = (1 ≤ c) × (c ≤ 1000)

pub record GoodEstimate (r : Rows) (s : ℕ) : Type 0 where
  pub small : slice_index_or r.estimates s 0 ≤ 1023000
  pub nought : s ≡ r.goal → slice_index r.estimates s ≡ 0

-- The estimate of state u is not above the cost of its cut at entry e and the estimate behind it.
abbrev pub GoodSlope : Rows → ℕ → ℕ → Type 0
GoodSlope r u e = slice_index r.estimates u ≤ slice_index r.costs e + slice_index r.estimates (slice_index r.targets e)

-- The rows are bad for a cause, by its number, at a place: an entry, a state, or 0 where the whole is meant.
pub data Bad (r : Rows) : ℕ → ℕ → Type 0 where
  shape : (Shape r → ⊥) → Bad r 5 0
  ends : (Ends r → ⊥) → Bad r 6 0
  target : (u e : ℕ) → Holds r u e → (GoodTarget r u e → ⊥) → Bad r 7 e
  cost : (e : ℕ) → e < length r.costs → (GoodCost (slice_index r.costs e) → ⊥) → Bad r 8 e
  estimate : (s : ℕ) → s < states r → (GoodEstimate r s → ⊥) → Bad r 9 s
  slope : (u e : ℕ) → Holds r u e → (GoodSlope r u e → ⊥) → Bad r 10 e

-- Nothing is wrong with the rows.
abbrev pub Passes : Rows → Type 0
Passes r = (cause place : ℕ) → Bad r cause place → ⊥

-- What is told of bad rows: the smallest cause, and for it the least place.
pub record Worst (r : Rows) (cause place : ℕ) : Type 0 where
  pub is : Bad r cause place
  pub least : (c e : ℕ) → Bad r c e → (cause < c) ⊎ ((cause ≡ c) × (place ≤ e))
