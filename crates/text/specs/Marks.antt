-- The marks of a text: what the reader has in hand where some bytes are left. Bytes are ASCII codes.
use Rattle.std.specs.Prelude.{ℕ, Bool, cond, ◌&&◌, ◌||◌, List, [], ◌∷◌, length, take, ◌==◌, nat_le, nat_lt, slice_index}
use Rattle.std.specs.Str.Parse.{digits_value}
use Rattle.std.specs.List.{prefix_len}
use Rattle.text.specs.declared.Kind.{Kind}
use Rattle.text.specs.declared.Kind.TheVariants.{Single, Letter, Digit, Outside}

-- `(`, `)`, space and line feed stand for themselves.
abbrev pub is_single : ℕ → Bool
is_single b = b == 40 || (b == 41 || (b == 32 || b == 10))

-- a to z
abbrev pub is_letter : ℕ → Bool
is_letter b = nat_le 97 b && nat_le b 122

-- 0 to 9
abbrev pub is_digit : ℕ → Bool
is_digit b = nat_le 48 b && nat_le b 57

-- What a byte is: it stands for itself, or it is a letter, a digit, or outside the set of bytes that a text may have.
abbrev pub kind : ℕ → Kind
kind b = cond (is_single b) Single (cond (is_letter b) Letter (cond (is_digit b) Digit Outside))

-- A mark: a bracket, a space or a line feed, by its byte; a word; a number; the text's end; or what is no mark, by the cause of its
-- fault: 1 for a byte outside the set, 2 for a number badly written.
pub data Mark : Type 0 where
  sign : ℕ → Mark
  word : List ℕ → Mark
  number : ℕ → Mark
  end : Mark
  bad : ℕ → Mark

-- More than seven digits, or a leading 0 and something after it.
abbrev pub badly_written : List ℕ → Bool
badly_written ds = nat_lt 7 (length ds) || (nat_lt 1 (length ds) && slice_index ds 0 == 48)

-- What a whole run of digits is: its value in base ten, or no mark.
abbrev pub figures : List ℕ → Mark
figures ds = cond (badly_written ds) (bad 2) (number (digits_value 10 ds))

-- The mark that begins with b, by the kind of b, where bs are all the bytes left, b the first of them. A word is the longest run of letters
-- and a number the longest run of digits (`prefix_len` counts the bytes of the longest front that passes).
abbrev pub mark_of : Kind → ℕ → List ℕ → Mark
mark_of Single b bs = sign b
mark_of Letter b bs = word (take (prefix_len is_letter bs) bs)
mark_of Digit b bs = figures (take (prefix_len is_digit bs) bs)
mark_of Outside b bs = bad 1

-- How many bytes it takes.
abbrev pub width_of : Kind → List ℕ → ℕ
width_of Single bs = 1
width_of Letter bs = prefix_len is_letter bs
width_of Digit bs = prefix_len is_digit bs
width_of Outside bs = 1

-- The mark in hand where the bytes bs are left, and how many of them it takes.
abbrev pub next : List ℕ → Mark
next [] = end
next (b ∷ bs) = mark_of (kind b) b (b ∷ bs)

abbrev pub width : List ℕ → ℕ
width [] = 0
width (b ∷ bs) = width_of (kind b) (b ∷ bs)
