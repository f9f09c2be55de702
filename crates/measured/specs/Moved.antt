-- What comes of a last that works until it is done: the states that it moves, the route that then stands, and the floor.
use Rattle.std.specs.Prelude.{◌≡◌, ℕ, ◌≤◌, List, [], ◌∷◌, length, Option}
use Rattle.course.specs.Blanks.{Meaning, Lawful}
use Rattle.course.specs.Machine.{Standing, State, Order, LawfulRanks}
use Rattle.course.specs.declared.machine.Word.{Word}
use Rattle.course.specs.declared.machine.Word.TheVariants.{Done as done}
use Rattle.course.specs.Calls.{Call, work, Answer, worked, Works, is_done, is_met, is_spent, goes_on, Does, Life}

-- The states that a work moves, from the first to the last: those that its moves choose and close.
abbrev pub moved : {m : Meaning} {ord : Order} {b k : ℕ} {w : Word} {s z : State} → Works m ord b s w k z → List ℕ
moved (is_done f) = []
moved (is_met f n) = []
moved (is_spent f n) = []
moved (goes_on f n move rest) = move.n ∷ moved rest

-- A call of work that is accepted, with a budget of k moves or more.
pub record Enough (m : Meaning) (k budget cost_row wish_row : ℕ) : Type 0 where
  pub moves : k ≤ budget
  pub allowed : budget ≤ 65535
  pub costs : m.states ≤ cost_row
  pub wishes : m.states ≤ wish_row

-- At the state s every such call answers done after the moves of the states ns, in this order, and leaves this standing route, or none, and
-- this floor.
pub record ComesTo (m : Meaning) (ord : Order) (s : State) (ns : List ℕ) (standing : Option Standing) (floor : ℕ) : Type 0 where
  -- it can answer so
  pub answers : (b c w : ℕ) → Enough m (length ns) b c w → (z : State) × Does m ord s (work b c w) (worked done (length ns)) z
  -- and not otherwise
  pub only :
      (b c w : ℕ) → Enough m (length ns) b c w → (a : Answer) (z : State) → Does m ord s (work b c w) a z
      → (a ≡ worked done (length ns)) × (z.standing ≡ standing) × (z.floor ≡ floor)
  -- its moves, however it is made, are of these states
  pub moves : {b k : ℕ} {w : Word} {z : State} → length ns ≤ b → (x : Works m ord b s w k z) → moved x ≡ ns

-- So it comes over a lawful blank, with every wish whose ranks keep their laws, at the state that clamping and then these calls leave.
pub record Measured (m : Meaning) (before : List (Call × Answer)) (ns : List ℕ) (standing : Option Standing) (floor : ℕ) : Type 0 where
  pub lawful : Lawful m
  -- there is such a state
  pub begins : (ord : Order) → LawfulRanks ord → (s : State) × Life m ord before s
  -- and at each it comes so
  pub comes : (ord : Order) → LawfulRanks ord → (s : State) → Life m ord before s → ComesTo m ord s ns standing floor
