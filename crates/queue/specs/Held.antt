-- What the calls of a queue do to its row. A queue holds the first n entries of a row; row and n are as a call begins, row' and n' as it ends.
-- In which order the held ranks stand is left open: `IsPermutation`, of std, says that two lists have the same elements, repeats counted.
use Rattle.std.specs.Prelude.{◌≡◌, ℕ, ◌+◌, ◌<◌, ◌≤◌, Bool, true, List, [], ◌∷◌, ◌++◌, length, take, drop, ◌≢◌, slice_index_or}
use Rattle.std.specs.List.Sorted.{IsPermutation}

-- Row and queue are as they were.
pub record Unchanged {R : Type 0} (row : List R) (n : ℕ) (row' : List R) (n' : ℕ) : Type 0 where
  pub same : row' ≡ row
  pub count : n' ≡ n

-- One rank was put.
pub record Put {R : Type 0} (rank : R) (row : List R) (n : ℕ) (row' : List R) (n' : ℕ) : Type 0 where
  -- there was room for it
  pub room : n < length row
  pub more : n' ≡ n + 1
  -- it is held beside those that were held
  pub held : IsPermutation (take n' row') (take n row ++ rank ∷ [])
  -- the entries behind are as they were
  pub rest : drop n' row' ≡ drop n' row

-- The first of the held ranks was removed, and its state was answered.
pub record Taken {R : Type 0} (state : R → ℕ) (precedes : R → R → Bool) (answer : ℕ) (row : List R) (n : ℕ) (row' : List R) (n' : ℕ) : Type 0 where
  pub fewer : n ≡ n' + 1
  -- the rank that was removed
  pub out : R
  pub told : answer ≡ state out
  -- no held rank goes before it
  pub first : (k : ℕ) (d : R) → k < n → precedes out (slice_index_or row k d) ≡ true
  -- it was held, and the others still are
  pub held : IsPermutation (take n row) (take n' row' ++ out ∷ [])
  -- it stands directly behind them
  pub behind : take n row' ≡ take n' row' ++ out ∷ []
  -- the row is a shuffle of itself
  pub whole : IsPermutation row row'
  -- the entries behind are as they were
  pub rest : drop n row' ≡ drop n row

-- All held ranks of the state struck were removed, and how many was answered.
pub record Struck {R : Type 0} (state : R → ℕ) (struck answer : ℕ) (row : List R) (n : ℕ) (row' : List R) (n' : ℕ) : Type 0 where
  pub count : answer + n' ≡ n
  -- none that is still held carries the state
  pub clear : (k : ℕ) (d : R) → k < n' → state (slice_index_or row' k d) ≢ struck
  -- each that was removed carries it, and they stand directly behind the held ones
  pub gone : (k : ℕ) (d : R) → n' ≤ k → k < n → state (slice_index_or row' k d) ≡ struck
  -- the held and the removed ones are those that were held
  pub held : IsPermutation (take n row) (take n row')
  -- the row is a shuffle of itself
  pub whole : IsPermutation row row'
  -- the entries behind are as they were
  pub rest : drop n row' ≡ drop n row
