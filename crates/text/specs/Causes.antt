-- Why a text is refused: which layer and cause belong to what stands at a place, said without the reader.
use Rattle.std.specs.Prelude.{◌≡◌, ℕ, ◌+◌, ◌<◌, ◌≤◌, true, false, List, [], ◌∷◌, ◌++◌, length, take, drop, ◌≢◌, slice_index}
use Rattle.std.specs.List.{flat_map, AllByRecursion}
use Rattle.text.specs.declared.Kind.TheVariants.{Outside}
use Rattle.text.specs.Marks.{is_digit, kind, sign, bad, next, width, badly_written}
use Rattle.text.specs.Forms.{filled}
use Rattle.text.specs.Document.{Cut, Short, ShortCut, total, first_line, from, a_cut, space, lines_text}

-- A number of states that a text may say: 2 to 1,024.
abbrev pub Allowed : ℕ → Type 0
Allowed n = (2 ≤ n) × (n ≤ 1024)

-- The bytes begin with a whole first line, its line feed with it, that says n states, whether so many are allowed or not.
pub record Headed (n : ℕ) (bs : List ℕ) : Type 0 where
  pub start : ℕ
  pub goal : ℕ
  pub rest : List ℕ
  pub states_short : Short n
  pub start_short : Short start
  pub goal_short : Short goal
  pub is : bs ≡ filled first_line (n ∷ start ∷ goal ∷ []) ++ rest

-- The text of cuts, ` (# #)` for each, with no line's end behind them.
abbrev pub bare_cuts : List Cut → List ℕ
bare_cuts = flat_map (λ (c : Cut). filled a_cut (c.target ∷ c.cost ∷ []))

-- The bytes are a first line, the whole lines of the states before some state u, and of the line of u `(from u`, its cuts so far, and a
-- space; and these cuts are 8,192 together, as many as a text may have. What stands behind such bytes, if it is an opening bracket, opens one
-- cut too many.
pub record Full (bs : List ℕ) : Type 0 where
  pub states : ℕ
  pub allowed : Allowed states
  pub head : Headed states bs
  pub whole : List (List Cut)
  pub begun : List Cut
  pub more : length whole < states
  pub whole_short : AllByRecursion (AllByRecursion ShortCut) whole
  pub begun_short : AllByRecursion ShortCut begun
  pub all : total whole + length begun ≡ 8192
  pub is : head.rest ≡ lines_text 0 whole ++ (filled (from (length whole)) [] ++ (bare_cuts begun ++ filled (space ∷ []) []))

-- The bytes begin with the digits ds, one or more, and no digit follows these. (Where nothing follows, `slice_index` gives 0, which is no digit.)
pub record Run (ds bs : List ℕ) : Type 0 where
  pub some : 0 < length ds
  pub digits : AllByRecursion (λ b. is_digit b ≡ true) ds
  pub rest : List ℕ
  pub is : bs ≡ ds ++ rest
  pub ends : is_digit (slice_index rest 0) ≡ false

-- The places of a text where its marks begin, up to its end: the first at 0, and each other where the mark before it ends.
pub data Starts (text : List ℕ) : ℕ → Type 0 where
  at_first : Starts text 0
  at_next : (place : ℕ) → Starts text place → Starts text (place + width (drop place text))

-- The text is not too long, and a mark of it begins at the place, or its end is there.
pub record Spot (text : List ℕ) (place : ℕ) : Type 0 where
  pub fits : length text ≤ 60000
  pub starts : Starts text place

-- Which layer and cause belong to what stands at a place of the text. It says nothing of whether that is a fault.
-- layer 1, cause 1: a byte outside the set;
-- layer 1, cause 2: a number badly written;
-- layer 2, cause 4: the byte at offset 60,000 of a text that is too long, and the opening bracket of cut 8,193;
-- layer 2, cause 3: any other mark, and the text's end.
pub data Told (text : List ℕ) (place : ℕ) : ℕ → ℕ → Type 0 where
  outside : Spot text place → place < length text → kind (slice_index text place) ≡ Outside → Told text place 1 1
  badly : Spot text place → (ds : List ℕ) → Run ds (drop place text) → badly_written ds ≡ true → Told text place 1 2
  too_long : 60000 < length text → place ≡ 60000 → Told text place 2 4
  too_many : Spot text place → Full (take place text) → next (drop place text) ≡ sign 40 → Told text place 2 4
  misplaced :
      Spot text place → ((c : ℕ) → next (drop place text) ≢ bad c) → (Full (take place text) → next (drop place text) ≢ sign 40)
      → Told text place 2 3

-- The text says at its head how many states it has, and so many are not allowed.
pub record Miscounted (text : List ℕ) : Type 0 where
  pub states : ℕ
  pub head : Headed states text
  pub not_allowed : Allowed states → ⊥
