-- A blank with knots: no cut leads into a marked state, and all else is as below.
use Rattle.std.specs.Prelude.{ℕ, Bool, if◌then◌else◌, List, map, Some, None, Option, ◌==◌}
use Rattle.std.specs.List.{list_any}
use Rattle.course.specs.Blanks.{Meaning}

-- Whether s is one of the numbers of a list.
abbrev pub among : List ℕ → ℕ → Bool
among xs s = list_any (λ k. k == s) xs

-- What a place holds once some states are marked: a cut into a marked state is gone.
abbrev pub barring : (ℕ → Bool) → Option (ℕ × ℕ) → Option (ℕ × ℕ)
barring marked None = None
barring marked (Some cut) = if marked cut.0 then None else Some cut

abbrev pub knotted : Meaning → (ℕ → Bool) → Meaning
knotted m marked = record {
  states = m.states;
  start = m.start;
  goal = m.goal;
  places = λ u. map (barring marked) (m.places u);
  estimate = m.estimate;
}
