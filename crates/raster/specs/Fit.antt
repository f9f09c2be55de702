-- When bytes, sides and ends make a raster.
use Rattle.std.specs.Prelude.{◌≡◌, ℕ, ◌*◌, ◌<◌, ◌≤◌, List, length, Some, None, Option, slice_index}
use Rattle.course.specs.declared.refusal.Refusal.{Refusal}
use Rattle.course.specs.declared.refusal.Refusal.TheVariants.{WrongShape, BadEnds}

-- No side is 0, the area is 2 to 1,024, and there is a byte for each cell.
pub record FitShape (bytes : List ℕ) (width height : ℕ) : Type 0 where
  pub wide : 1 ≤ width
  pub high : 1 ≤ height
  pub enough : 2 ≤ width * height
  pub few : width * height ≤ 1024
  pub whole : length bytes ≡ width * height

-- Start and goal are two cells, and neither is kept wood.
pub record FitEnds (bytes : List ℕ) (width height start goal : ℕ) : Type 0 where
  pub start_in : start < width * height
  pub goal_in : goal < width * height
  pub apart : start ≡ goal → ⊥
  pub start_open : 1 ≤ slice_index bytes start
  pub goal_open : 1 ≤ slice_index bytes goal

-- What is told of them: nothing where they make a raster, else the first refusal that applies.
pub data Told (bytes : List ℕ) (width height start goal : ℕ) : Option Refusal → Type 0 where
  fit : FitShape bytes width height → FitEnds bytes width height start goal → Told bytes width height start goal None
  wrong_shape : (FitShape bytes width height → ⊥) → Told bytes width height start goal (Some WrongShape)
  bad_ends : FitShape bytes width height → (FitEnds bytes width height start goal → ⊥) → Told bytes width height start goal (Some BadEnds)
