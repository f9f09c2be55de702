-- A life of given calls with their answers, from clamping on.
use Rattle.std.specs.Prelude.{◌≡◌, List, [], ◌∷◌, length}
use Rattle.course.specs.Blanks.{Meaning}
use Rattle.course.specs.Machine.{State, Order}
use Rattle.course.specs.Calls.{Call, Answer, Life}
use Rattle.course.specs.Promises.{AllTrue}

-- Calls with their answers, the newest first, after those that came before them.
abbrev pub newest_first : List Call → List Answer → List (Call × Answer) → List (Call × Answer)
newest_first [] answers before = before
newest_first (c ∷ calls) [] before = before
newest_first (c ∷ calls) (a ∷ answers) before = newest_first calls answers ((c, a) ∷ before)

-- The answers are those of a life of exactly these calls, in their order, refused ones included, over the blank m under the wish; and every
-- answer of it means what it says.
pub record Lived (m : Meaning) (ord : Order) (calls : List Call) (answers : List Answer) : Type 0 where
  pub every : length answers ≡ length calls
  pub left : State
  pub life : Life m ord (newest_first calls answers []) left
  pub truly : AllTrue m ord (newest_first calls answers [])
