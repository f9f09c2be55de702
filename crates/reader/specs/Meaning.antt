-- What the reader's marks mean.
use Rattle.std.specs.Prelude.{◌≡◌, ℕ, ◌+◌, ◌≤◌, Bool, true, false, not, ◌||◌, List, length, drop, Ok, Err, Result}
use Rattle.std.specs.Str.Parse.{digits_value}
use Rattle.std.specs.List.{AllByRecursion}
use Rattle.course.specs.Refusals.{number_of}
use Rattle.course.specs.declared.refusal.Refusal.{Refusal}
use Rattle.text.specs.declared.Kind.{Kind}
use Rattle.text.specs.declared.Kind.TheVariants.{Single, Letter, Digit, Outside}
use Rattle.text.specs.declared.Fault.{Fault}
use Rattle.text.specs.declared.Layer.TheVariants.{Marks}
use Rattle.text.specs.Marks as rules
use Rattle.text.specs.Marks.{is_single, is_letter, is_digit, sign, word, number, end, bad, next, width}
use Rattle.reader.specs.declared.marks.Sign.{Sign}
use Rattle.reader.specs.declared.marks.Sign.TheVariants.{Opening, Closing, Space, LineFeed}
use Rattle.reader.specs.declared.marks.Token.{Token}
use Rattle.reader.specs.declared.marks.Token.TheVariants.{Sign as ASign, Word, Number, End}
use Rattle.reader.specs.declared.marks.Mark.{Mark}
use Rattle.reader.specs.declared.marks.Reader.{Reader}

-- The byte that a sign stands for.
abbrev pub byte_of : Sign → ℕ
byte_of Opening = 40
byte_of Closing = 41
byte_of Space = 32
byte_of LineFeed = 10

-- The sign of a byte, or the byte where it is no sign.
abbrev pub IsSignOf : ℕ → Result Sign ℕ → Type 0
IsSignOf b (Ok s) = byte_of s ≡ b
IsSignOf b (Err e) = (e ≡ b) × (is_single b ≡ false)

-- Whether a byte is of a kind.
abbrev pub of_kind : Kind → ℕ → Bool
of_kind Single = is_single
of_kind Letter = is_letter
of_kind Digit = is_digit
of_kind Outside = λ b. not (is_single b || (is_letter b || is_digit b))

-- The mark of the rules that a token is.
abbrev pub meant : Token → rules.Mark
meant (ASign s) = sign (byte_of s)
meant (Word w) = word w.now
meant (Number ds) = number (digits_value 10 ds.now)
meant End = end

-- At most seven digits.
pub record Figures (ds : List ℕ) : Type 0 where
  pub all : AllByRecursion (λ b. is_digit b ≡ true) ds
  pub few : length ds ≤ 7

abbrev pub Written : Token → Type 0
Written (ASign s) = Unit {0}
Written (Word w) = Unit {0}
Written (Number ds) = Figures ds.now
Written End = Unit {0}

-- The mark in front of some bytes, and how many of them it takes; or why there is none.
pub record Front (bs : List ℕ) (p : Token × ℕ) : Type 0 where
  pub is : meant p.0 ≡ next bs
  pub wide : p.1 ≡ width bs
  pub few : p.1 ≤ length bs
  pub written : Written p.0

abbrev pub Fronts : List ℕ → Result (Token × ℕ) Refusal → Type 0
Fronts bs (Ok p) = Front bs p
Fronts bs (Err c) = next bs ≡ bad (number_of c)

-- The mark in hand at a place of a text, or why there is none.
pub record Marked (text : List ℕ) (at : ℕ) (m : Mark) : Type 0 where
  pub is : meant m.token ≡ next (drop at text)
  pub here : m.place ≡ at
  pub ends : m.end ≡ at + width (drop at text)
  pub written : Written m.token

pub record Unmarked (text : List ℕ) (at : ℕ) (f : Fault) : Type 0 where
  pub is : next (drop at text) ≡ bad (number_of f.cause)
  pub layer : f.layer ≡ Marks
  pub here : f.place ≡ at

abbrev pub Taken : List ℕ → ℕ → Result Mark Fault → Type 0
Taken text at (Ok m) = Marked text at m
Taken text at (Err f) = Unmarked text at f

-- A reader behind the mark that it gave; where it gave none it stays.
abbrev pub behind : Reader → Result Mark Fault → Reader
behind r (Ok m) = record { text = r.text; at = m.end }
behind r (Err f) = r
