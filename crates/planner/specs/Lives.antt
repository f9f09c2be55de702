-- What is said after every life that led to a state.
use Rattle.std.specs.Prelude.{List}
use Rattle.course.specs.Blanks.{Meaning}
use Rattle.course.specs.Machine.{State, Order}
use Rattle.course.specs.Calls.{Call, Answer, Life}

-- Some life led to s.
abbrev pub HasLife : Meaning → Order → State → Type 0
HasLife m ord s = ∥ ((cs : List (Call × Answer)) × Life m ord cs s) ∥₁

-- P holds after every life that led to s, and there is one.
pub record AfterLives (m : Meaning) (ord : Order) (s : State) (P : List (Call × Answer) → Type 0) : Type 0 where
  pub some : HasLife m ord s
  pub every : (cs : List (Call × Answer)) → Life m ord cs s → P cs
