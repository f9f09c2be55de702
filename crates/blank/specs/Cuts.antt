-- The cut at a place.
use Rattle.std.specs.Prelude.{ℕ, None, Option, slice_index_or}
use Rattle.course.specs.Blanks.{Meaning}

-- What a place of a state holds: nothing, or a cut by the state that it leads to and its cost. A place past the last holds nothing.
abbrev pub cut_at : Meaning → ℕ → ℕ → Option (ℕ × ℕ)
cut_at m u place = slice_index_or (m.places u) place None
