-- What the calls of a last answer, for every state of a last and every input: the calls' contracts. s is the state that a call finds, z the one
-- that it leaves. What a call does is told by the machine's rules (`Does`), and what its answer means by the promises. Some life led to every
-- last. What is decided, or has one proof, is said outright; how an accepted work or ceiling goes on, that a list of states is a route, and what
-- the calls before answered is said of every life that led to s.
use Rattle.std.specs.Prelude.{◌≡◌, ℕ, ◌≤◌, List, length, take, drop, Ok, Err, Result}
use Rattle.course.specs.declared.machine.Word.{Word}
use Rattle.course.specs.declared.refusal.Refusal.{Refusal}
use Rattle.course.specs.Refusals.{number_of}
use Rattle.course.specs.Blanks.{Meaning}
use Rattle.course.specs.Machine.{State, Order}
use Rattle.course.specs.Calls.{work, ratio, ceiling, show, route, worked, set, shown, told, refused, Does}
use Rattle.course.specs.Promises.{LowerBound, Meant, TrueShowing, TrueRoute}
use Rattle.planner.specs.Lives.{AfterLives}
use Rattle.planner.specs.declared.last.work.Worked.{Worked}
use Rattle.planner.specs.declared.last.show.Shown.{Shown}
use Rattle.planner.specs.declared.last.route.Told.{Told}

-- WORK

-- A work was accepted, with a budget and two rows of these lengths; it ended by the word after so many moves.
pub record AcceptedWork (m : Meaning) (ord : Order) (s : State) (budget cost_row wish_row : ℕ) (word : Word) (moves : ℕ) (z : State) : Type 0 where
  -- both rows have room for all states, and the budget is allowed
  pub cost_room : m.states ≤ cost_row
  pub wish_room : m.states ≤ wish_row
  pub allowed : budget ≤ 65535
  pub does : AfterLives m ord s (λ cs. Does m ord s (work budget cost_row wish_row) (worked word moves) z)
  -- what done, met and spent mean
  pub meant : Meant m budget word moves z

abbrev pub WorkAnswered : Meaning → Order → State → ℕ → ℕ → ℕ → Result Worked Refusal → State → Type 0
WorkAnswered m ord s budget cost_row wish_row (Ok x) z = AcceptedWork m ord s budget cost_row wish_row x.word x.moves z
WorkAnswered m ord s budget cost_row wish_row (Err e) z = Does m ord s (work budget cost_row wish_row) (refused (number_of e)) s

-- RATIO AND CEILING

abbrev pub RatioAnswered : Meaning → Order → State → ℕ → ℕ → Result (Unit {0}) Refusal → State → Type 0
RatioAnswered m ord s p q (Ok x) z = Does m ord s (ratio p q) set z
RatioAnswered m ord s p q (Err e) z = Does m ord s (ratio p q) (refused (number_of e)) s

-- A ceiling was accepted: it is not above the present one.
pub record AcceptedCeiling (m : Meaning) (ord : Order) (s : State) (c : ℕ) (z : State) : Type 0 where
  pub allowed : c ≤ s.ceiling
  pub does : AfterLives m ord s (λ cs. Does m ord s (ceiling c) set z)

abbrev pub CeilingAnswered : Meaning → Order → State → ℕ → Result (Unit {0}) Refusal → State → Type 0
CeilingAnswered m ord s c (Ok x) z = AcceptedCeiling m ord s c z
CeilingAnswered m ord s c (Err e) z = Does m ord s (ceiling c) (refused (number_of e)) s

-- SHOW

pub record ShowAnswered (m : Meaning) (ord : Order) (s : State) (r : Shown) : Type 0 where
  pub does : Does m ord s show (shown r.cost r.floor r.moves r.ceiling r.p r.q) s
  -- no route costs less than the floor
  pub floor_under : LowerBound m r.floor
  -- a cost is that of a route, and the moves are those that the works answered
  pub truly : AfterLives m ord s (λ cs. TrueShowing m cs r.cost r.floor r.moves)

-- ROUTE

-- A route was told: the row was `row` and is now `after`.
pub record AcceptedRoute (m : Meaning) (ord : Order) (s : State) (row : List ℕ) (t : Told) (after : List ℕ) : Type 0 where
  pub does : Does m ord s (route (length row)) (told (take t.len after) t.cost t.floor) s
  -- len is the number of the states, which were written first; the entries after them are as they were
  pub counted : length (take t.len after) ≡ t.len
  pub rest : drop t.len after ≡ drop t.len row
  -- no route costs less than the floor
  pub floor_under : LowerBound m t.floor
  -- what was written is a route of the blank, at the cost told
  pub truly : AfterLives m ord s (λ cs. TrueRoute m (length row) (take t.len after) t.cost t.floor)

-- A refused one leaves the row as it was.
pub record RefusedRoute (m : Meaning) (ord : Order) (s : State) (row : List ℕ) (e : Refusal) (after : List ℕ) : Type 0 where
  pub does : Does m ord s (route (length row)) (refused (number_of e)) s
  pub same : after ≡ row

abbrev pub RouteAnswered : Meaning → Order → State → List ℕ → Result Told Refusal → List ℕ → Type 0
RouteAnswered m ord s row (Ok t) after = AcceptedRoute m ord s row t after
RouteAnswered m ord s row (Err e) after = RefusedRoute m ord s row e after
