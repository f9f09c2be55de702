-- What a raster means: cells in lines of one width, each with a byte. Byte 0 is kept wood, which is never entered; any other byte is the
-- cost of entering its cell.
use Rattle.std.specs.Prelude.{◌≡◌, ℕ, ◌+◌, ◌-◌, ◌*◌, ◌/◌, ◌%◌, ◌≤◌, min, if◌then◌else◌, List, [], ◌∷◌, Some, None, Option, Result, MatchResult, ◌==◌, nat_lt, slice_index}
use Rattle.course.specs.Blanks.{Meaning}
use Rattle.raster.specs.declared.direction.Direction.{Direction}
use Rattle.raster.specs.declared.direction.Direction.TheVariants.{Up, Right, Down, Left}
use Rattle.raster.specs.declared.direction.NoDirection.{NoDirection}

-- The cell at a line and a column. Back again, a cell's line is cell / width, and its column is cell % width.
abbrev pub cell_at : ℕ → ℕ → ℕ → ℕ
cell_at width line column = line * width + column

-- The cell beside a line and a column: none past an edge.
abbrev pub beside : ℕ → ℕ → Direction → ℕ → ℕ → Option ℕ
beside width height Up line column = if nat_lt 0 line then Some (cell_at width (line - 1) column) else None
beside width height Right line column = if nat_lt (column + 1) width then Some (cell_at width line (column + 1)) else None
beside width height Down line column = if nat_lt (line + 1) height then Some (cell_at width (line + 1) column) else None
beside width height Left line column = if nat_lt 0 column then Some (cell_at width line (column - 1)) else None

-- The cell next to a cell in a direction.
abbrev pub neighbour : ℕ → ℕ → Direction → ℕ → Option ℕ
neighbour width height direction cell = beside width height direction (cell / width) (cell % width)

-- The cut into a cell, at the cost of entering it: none into kept wood.
abbrev pub entering : List ℕ → ℕ → Option (ℕ × ℕ)
entering bytes cell = if slice_index bytes cell == 0 then None else Some (cell, slice_index bytes cell)

-- The cut into a neighbour, where there is one.
abbrev pub cut_into : List ℕ → Option ℕ → Option (ℕ × ℕ)
cut_into bytes None = None
cut_into bytes (Some cell) = entering bytes cell

-- The four places of a cell: up, right, down, left, whatever each holds.
abbrev pub four : (Direction → Option (ℕ × ℕ)) → List (Option (ℕ × ℕ))
four held = held Up ∷ held Right ∷ held Down ∷ held Left ∷ []

-- The number of the place for each direction.
abbrev pub number : Direction → ℕ
number Up = 0
number Right = 1
number Down = 2
number Left = 3

-- What a place gives: the direction with that number, or none, past the fourth.
abbrev pub Directs : ℕ → Result Direction NoDirection → Type 0
Directs place r = MatchResult r (λ d. place ≡ number d) (λ _. 4 ≤ place)

-- What one axis adds to the way between two cells: the difference of their lines, or of their columns.
abbrev pub axis_distance : ℕ → ℕ → ℕ
axis_distance a b = (a - b) + (b - a)

-- The way between two cells: their lines' difference and their columns' difference.
abbrev pub distance : ℕ → ℕ → ℕ → ℕ
distance width a b = axis_distance (a / width) (b / width) + axis_distance (a % width) (b % width)

-- The smaller of a cost and a byte, where byte 0 counts for nothing.
abbrev pub lesser : ℕ → ℕ → ℕ
lesser cost byte = if byte == 0 then cost else min cost byte

-- The smallest byte above 0, and 255, the largest, where there is none.
abbrev pub least_cost : List ℕ → ℕ
least_cost [] = 255
least_cost (b ∷ bs) = lesser (least_cost bs) b

-- The blank of a raster: each cell is a state. What is no cell has no places and estimate 0.
abbrev pub rastered : List ℕ → ℕ → ℕ → ℕ → ℕ → Meaning
rastered bytes width height start goal =
    record {
      states = width * height;
      start = start;
      goal = goal;
      places = λ u. if nat_lt u (width * height) then four (λ d. cut_into bytes (neighbour width height d u)) else [];
      estimate = λ u. if nat_lt u (width * height) then distance width u goal * least_cost bytes else 0;
    }
