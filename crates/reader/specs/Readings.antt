-- What the reader's code answers, held against what the rules make of the text.
use Rattle.std.specs.Prelude.{◌≡◌, ℕ, List, [], ◌∷◌, drop, Ok, Err, Result}
use Rattle.course.specs.Refusals.{number_of}
use Rattle.text.specs.declared.Fault.{Fault}
use Rattle.text.specs.Layers.{layer_number}
use Rattle.text.specs.Forms as rules
use Rattle.text.specs.Forms.{Form, Got, got, fault, follow, the_sign, the_word, the_number, a_number}
use Rattle.reader.specs.declared.marks.Reader.{Reader}
use Rattle.reader.specs.declared.forms.Want.{Want}
use Rattle.reader.specs.declared.forms.Want.TheVariants.{Sign as ASign, Word, Number}
use Rattle.reader.specs.Meaning.{byte_of}
use Rattle.reader.specs.declared.forms.Head.{Head}
use Rattle.reader.specs.declared.forms.Cut.{Cut}

-- The want of the rules.
abbrev pub wanted : Want → rules.Want
wanted (ASign s) = the_sign (byte_of s)
wanted (Word w) = the_word w.now
wanted (Number n) = the_number n

-- A fault of the rules, by its numbers.
abbrev pub told : {B : Type 0} → Fault → Got B
told f = fault (layer_number f.layer) (number_of f.cause) f.place

-- The numbers of an answer: of one that holds none, of a number, of two, of a first line, of a cut.
abbrev pub none : {A : Type 0} → A → List ℕ
none a = []

abbrev pub one : ℕ → List ℕ
one n = n ∷ []

abbrev pub pair : ℕ × ℕ → List ℕ
pair p = p.0 ∷ p.1 ∷ []

abbrev pub headed : Head → List ℕ
headed h = h.states ∷ h.start ∷ h.goal ∷ []

abbrev pub cutting : Cut → List ℕ
cutting c = c.target ∷ c.cost ∷ []

-- What a reader has before it.
abbrev pub rest : Reader → List ℕ
rest r = drop r.at r.text.now

-- A reader went along a form, in the same text, and took the numbers ns.
pub record Went (f : Form) (ns : List ℕ) (from to : Reader) : Type 0 where
  pub same : to.text.now ≡ from.text.now
  pub tells : follow f from.at (rest from) ≡ got ns to.at (rest to)

-- A reader stopped on its way along a form.
pub record Stopped (f : Form) (from to : Reader) (e : Fault) : Type 0 where
  pub same : to.text.now ≡ from.text.now
  pub tells : follow f from.at (rest from) ≡ told e

-- A reader follows a form: what it answers means the form's numbers, or is the fault of the first mark that is not wanted.
abbrev pub Reads : {A : Type 0} → Form → (A → List ℕ) → Reader → Reader → Result A Fault → Type 0
Reads f mean from to (Ok a) = Went f (mean a) from to
Reads f mean from to (Err e) = Stopped f from to e

-- ` (word #)`
abbrev pub named_number : List ℕ → Form
named_number w = the_sign 32 ∷ the_sign 40 ∷ the_word w ∷ the_sign 32 ∷ a_number ∷ the_sign 41 ∷ []
