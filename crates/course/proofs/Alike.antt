-- Equal wishes make the same courses, since a course ranks only numbers that fit 32 bits.
use Rattle.std.proofs.Common.{ℕ, List, ◌∙◌}
use Rattle.course.specs.Blanks.{Meaning, Lawful}
use Rattle.course.specs.Machine.{State, Focal, numbers, Order, Fits32, EqualWishes, Move}
use Rattle.course.specs.Calls.{Allowed}
use Rattle.course.proofs.Moves.{Kept}
use Rattle.course.proofs.Courses.{Event, Course, from_fresh, on, agreed, lowered, course_allowed}
use Rattle.course.proofs.Floor.{course_held}
use Rattle.course.proofs.Bounded.{PaidBy, paid_course}
use Rattle.course.proofs.Fits.{numbers_fit}

-- A move by one wish is a move by an equal one.
pub move_alike :
    {m : Meaning} {a b : Order} {s z : State} → Lawful m → EqualWishes a b → Kept m s → PaidBy m s → Allowed s.p s.q → Move m b s z
    → Move m a s z
move_alike {m} {a} {b} {s} law alike kept paid allowed move =
    let fit : (u g : ℕ) → Focal m s move.f u g → Fits32 (numbers m s move.f u g) = λ u g focal. numbers_fit law kept paid allowed move.least focal in
    record {
      n = move.n;
      g = move.g;
      f = move.f;
      least = move.least;
      chosen = record {
        focal = move.chosen.focal;
        first = λ u k focal. alike (numbers m s move.f move.n move.g) (numbers m s move.f u k) (fit move.n move.g move.chosen.focal) (fit u k focal) ∙ move.chosen.first u k focal;
      };
      after = move.after;
      cuts = move.cuts;
      raised = move.raised;
    }

-- A course by one wish is a course by an equal one.
pub course_alike : {m : Meaning} {a b : Order} {es : List Event} {s : State} → Lawful m → EqualWishes a b → Course m b es s → Course m a es s
course_alike law alike (from_fresh raised) = from_fresh raised
course_alike {m} {b = b} law alike (on course move) = on (course_alike law alike course) (move_alike law alike (course_held law course).kept (paid_course m b law course) (course_allowed course) move)
course_alike law alike (agreed course allowed) = agreed (course_alike law alike course) allowed
course_alike law alike (lowered course low raised) = lowered (course_alike law alike course) low raised
