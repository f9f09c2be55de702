-- What a raster means, and over what it lies.
use Rattle.std.specs.Prelude.{◌≡◌, ℕ, List}
use Rattle.course.specs.Blanks.{Meaning}
use Rattle.raster.specs.declared.raster.Raster.{Raster}
use Rattle.raster.specs.Rastered.{rastered}

-- Its meaning as a blank, by its fields.
abbrev pub meant : Raster → Meaning
meant x = rastered x.bytes.now x.sides.width x.sides.height x.start x.goal

-- It lies over these bytes, with these sides and ends.
abbrev pub Over : Raster → List ℕ → ℕ → ℕ → ℕ → ℕ → Type 0
Over x bytes width height start goal = (x.bytes.now ≡ bytes) × (x.sides.width ≡ width) × (x.sides.height ≡ height) × (x.start ≡ start) × (x.goal ≡ goal)
