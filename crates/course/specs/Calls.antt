-- The calls that a clamped last meets, what each answers, and the lives that lists of calls make.
use Rattle.std.specs.Prelude.{◌≡◌, ℕ, suc, ◌*◌, ◌<◌, ◌≤◌, ◌⊎◌, List, [], ◌∷◌, length, Some, None, Option}
use Rattle.std.specs.Option.{option_map}
use Rattle.course.specs.declared.refusal.Refusal.TheVariants.{BadRatio, RowTooShort, BudgetTooLarge, NoRoute, CeilingRaised}
use Rattle.course.specs.Refusals.{number_of}
use Rattle.course.specs.Blanks.{Meaning}
pub use Rattle.course.specs.declared.machine.Word.{Word}
pub use Rattle.course.specs.declared.machine.Word.TheVariants.{Done as done, Met as met, Spent as spent}
use Rattle.course.specs.Machine.{State, Standing, limit, with_ratio, with_ceiling, Order, Move, Raised, fresh}

-- What a caller asks. Of a row that a call is lent only its length counts here: work has two, one for each of its queues, and route has the
-- row that it writes to.
pub data Call : Type 0 where
  work : (budget cost_row wish_row : ℕ) → Call
  ratio : (p q : ℕ) → Call
  ceiling : (c : ℕ) → Call
  show : Call
  route : (row : ℕ) → Call

-- What a call answers: work its word and the moves that it made; ratio and ceiling that it is set; show and route what they tell; and a
-- refused call the number of its refusal.
pub data Answer : Type 0 where
  worked : Word → ℕ → Answer
  set : Answer
  shown : (cost : Option ℕ) (floor moves ceiling p q : ℕ) → Answer
  told : (states : List ℕ) (cost floor : ℕ) → Answer
  refused : ℕ → Answer

-- The floor has come up to the limit: no route is left to look for.
abbrev pub Finished : State → Type 0
Finished s = limit s ≤ s.floor

-- A standing route is within the ceiling, and costs at most p/q times the floor.
pub record Met (s : State) : Type 0 where
  pub route : Standing
  pub stands : s.standing ≡ Some route
  pub within : route.cost ≤ s.ceiling
  pub near : route.cost * s.q ≤ s.p * s.floor

-- An accepted work at a budget, from a state to the one where it stops, with its word and the moves that it made. Before each move it looks,
-- in this order: is the search finished, is the ratio met, is the budget spent.
pub data Works (m : Meaning) (ord : Order) : ℕ → State → Word → ℕ → State → Type 0 where
  is_done : {b : ℕ} {s : State} → Finished s → Works m ord b s done 0 s
  is_met : {b : ℕ} {s : State} → (Finished s → ⊥) → Met s → Works m ord b s met 0 s
  is_spent : {s : State} → (Finished s → ⊥) → (Met s → ⊥) → Works m ord 0 s spent 0 s
  goes_on :
      {b k : ℕ} {w : Word} {s y z : State} → (Finished s → ⊥) → (Met s → ⊥) → Move m ord s y → Works m ord b y w k z
      → Works m ord (suc b) s w (suc k) z

-- The ratios p/q that may be set: 1 ≤ q ≤ p ≤ 1,000.
pub record Allowed (p q : ℕ) : Type 0 where
  pub low : 1 ≤ q
  pub order : q ≤ p
  pub high : p ≤ 1000

-- One call: what it answers, and the state that it leaves. A refused call leaves the state as it was.
pub data Does (m : Meaning) (ord : Order) : State → Call → Answer → State → Type 0 where
  -- work, with rows for all states and a budget that is allowed
  works :
      {s z : State} {b c w k : ℕ} {word : Word} → m.states ≤ c → m.states ≤ w → b ≤ 65535 → Works m ord b s word k z
      → Does m ord s (work b c w) (worked word k) z
  short_row : {s : State} {b c w : ℕ} → (c < m.states) ⊎ (w < m.states) → Does m ord s (work b c w) (refused (number_of RowTooShort)) s
  over_budget : {s : State} {b c w : ℕ} → m.states ≤ c → m.states ≤ w → 65535 < b → Does m ord s (work b c w) (refused (number_of BudgetTooLarge)) s
  -- ratio
  agrees : {s : State} {p q : ℕ} → Allowed p q → Does m ord s (ratio p q) set (with_ratio s p q)
  no_ratio : {s : State} {p q : ℕ} → (Allowed p q → ⊥) → Does m ord s (ratio p q) (refused (number_of BadRatio)) s
  -- ceiling, which never rises; the floor is raised under the new one
  lowers : {s z : State} {c : ℕ} → c ≤ s.ceiling → Raised m (with_ceiling s c) z → Does m ord s (ceiling c) set z
  too_high : {s : State} {c : ℕ} → s.ceiling < c → Does m ord s (ceiling c) (refused (number_of CeilingRaised)) s
  -- show
  shows : {s : State} → Does m ord s show (shown (option_map (λ r. r.cost) s.standing) s.floor s.moves s.ceiling s.p s.q) s
  -- route, whose row need hold only the route that stands
  tells :
      {s : State} {r : Standing} {row : ℕ} → s.standing ≡ Some r → length r.path ≤ row
      → Does m ord s (route row) (told r.path r.cost s.floor) s
  no_room :
      {s : State} {r : Standing} {row : ℕ} → s.standing ≡ Some r → row < length r.path
      → Does m ord s (route row) (refused (number_of RowTooShort)) s
  no_route : {s : State} {row : ℕ} → s.standing ≡ None → Does m ord s (route row) (refused (number_of NoRoute)) s

-- A last's life since it was clamped: its calls with their answers, the newest first, and the state that they left.
pub data Life (m : Meaning) (ord : Order) : List (Call × Answer) → State → Type 0 where
  clamped : {s : State} → Raised m (fresh m) s → Life m ord [] s
  then : {cs : List (Call × Answer)} {s z : State} {c : Call} {a : Answer} → Life m ord cs s → Does m ord s c a z → Life m ord ((c, a) ∷ cs) z
