-- A blank whose estimates are lowered to multiples of a step; all else is as below.
use Rattle.std.specs.Prelude.{ℕ, ◌*◌, ◌/◌}
use Rattle.course.specs.Blanks.{Meaning}

-- The greatest multiple of the step that is not above x.
abbrev pub lowered : ℕ → ℕ → ℕ
lowered step x = (x / step) * step

abbrev pub rounded : Meaning → ℕ → Meaning
rounded m step = record {
  states = m.states;
  start = m.start;
  goal = m.goal;
  places = m.places;
  estimate = λ u. lowered step (m.estimate u);
}
