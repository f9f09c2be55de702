-- Which states may be marked.
use Rattle.std.specs.Prelude.{ℕ, Bool, if◌then◌else◌, ◌||◌, List, length, Ok, Err, Result, ◌==◌, nat_le}
use Rattle.course.specs.Blanks.{Meaning}
use Rattle.course.specs.Refusals.{number_of}
use Rattle.course.specs.declared.refusal.Refusal.{Refusal}
use Rattle.course.specs.declared.refusal.Refusal.TheVariants.{KnotBarred, KnotMarked, KnotsFull}
use Rattle.layers.specs.Knotted.{among}

-- The number by which an answer is told: 0 for yes, and else that of the refusal.
abbrev pub mark_number : Result (Unit {0}) Refusal → ℕ
mark_number (Ok _) = 0
mark_number (Err refusal) = number_of refusal

-- What may never be marked: what is no state, the start and the goal.
abbrev pub barred : Meaning → ℕ → Bool
barred m s = nat_le m.states s || (s == m.start || s == m.goal)

-- Whether s may be marked over m, where these are the knots. Of the refusals that apply, the one with the smallest number is told.
abbrev pub may_be_marked : Meaning → List ℕ → ℕ → Result (Unit {0}) Refusal
may_be_marked m knots s =
    if barred m s then Err KnotBarred else if among knots s then Err KnotMarked else if nat_le 64 (length knots) then Err KnotsFull else Ok tt
