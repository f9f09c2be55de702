-- What the calls of a queue do, by the queue before and after.
use Rattle.std.specs.Prelude.{◌≡◌, ℕ, Bool, length}
use Rattle.queue.specs.declared.row_queue.Queue.{Queue}
use Rattle.queue.specs.Held.{Unchanged, Put, Taken, Struck}

-- The queue keeps the row that it was lent, so that the lender learns what this holds when the queue ends.
abbrev pub KeepsRow : {R : Type 0} → Queue R → Queue R → Type 0
KeepsRow q q' = q'.row.ghost_name ≡ q.row.ghost_name

-- Row and queue are as they were.
abbrev pub IsUnchanged : {R : Type 0} → Queue R → Queue R → Type 0
IsUnchanged q q' = Unchanged q.row.now q.len q'.row.now q'.len

-- Every entry of the row is held.
abbrev pub IsFull : {R : Type 0} → Queue R → Type 0
IsFull q = q.len ≡ length q.row.now

-- One rank was put.
abbrev pub Puts : {R : Type 0} → R → Queue R → Queue R → Type 0
Puts rank q q' = Put rank q.row.now q.len q'.row.now q'.len

-- The first of the held ranks was removed, and its state was answered.
abbrev pub Takes : {R : Type 0} → (R → ℕ) → (R → R → Bool) → ℕ → Queue R → Queue R → Type 0
Takes state precedes answer q q' = Taken state precedes answer q.row.now q.len q'.row.now q'.len

-- All held ranks of the state struck were removed, and how many was answered.
abbrev pub Strikes : {R : Type 0} → (R → ℕ) → ℕ → ℕ → Queue R → Queue R → Type 0
Strikes state struck answer q q' = Struck state struck answer q.row.now q.len q'.row.now q'.len
