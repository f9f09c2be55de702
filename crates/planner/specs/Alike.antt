-- Two lasts side by side: one over the blank m under the wish a, the other over n under b.
use Rattle.std.specs.Prelude.{◌≡◌, ℕ, List, take, Ok}
use Rattle.course.specs.Blanks.{Meaning, SameMeaning}
use Rattle.course.specs.Machine.{State, Order, EqualWishes}
use Rattle.course.specs.Calls.{Call, Answer, Life}
use Rattle.course.specs.Promises.{moves_in, settings_in}
use Rattle.planner.specs.declared.last.route.Told.{Told}
use Rattle.planner.specs.declared.alike.Compared.{Compared}

-- They have come the same way: the blanks mean the same and the wishes are equal, and so are the settings of their lives, in one order and each
-- at equal moves, and the moves. Works may have been split in any way, and calls that were refused or only told count for nothing.
pub record SameWay (m n : Meaning) (a b : Order) (cs ds : List (Call × Answer)) : Type 0 where
  pub meaning : SameMeaning m n
  pub wishes : EqualWishes a b
  pub settings : settings_in cs ≡ settings_in ds
  pub moves : moves_in cs ≡ moves_in ds

-- Both show the same; and where both routes were told, they are one: the same states, written at the front of each row, cost and floor.
pub record SameTold (r : Compared) (row other : List ℕ) : Type 0 where
  pub shown : r.first ≡ r.second
  pub told :
      (t u : Told) → r.first_route ≡ Ok t → r.second_route ≡ Ok u
      → (t ≡ u) × (take t.len row ≡ take u.len other)

-- Whatever lives led to s and z: if they came the same way, what is told of them is the same.
abbrev pub Agree : Meaning → Meaning → Order → Order → State → State → Compared → List ℕ → List ℕ → Type 0
Agree m n a b s z r row other =
    (cs ds : List (Call × Answer)) → Life m a cs s → Life n b ds z → SameWay m n a b cs ds → SameTold r row other
