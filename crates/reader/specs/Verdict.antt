-- What is promised of the verdict on every text.
use Rattle.std.specs.Prelude.{◌≡◌, ℕ, ◌≤◌, List, length, take, drop, Result}
use Rattle.course.specs.Refusals.{number_of}
use Rattle.text.specs.declared.Fault.{Fault}
use Rattle.text.specs.Layers.{layer_number}
use Rattle.text.specs.Document as rules
use Rattle.text.specs.Verdicts.{Says, refused}
use Rattle.text.specs.Marks.{next}
use Rattle.text.specs.Causes.{Told}
use Rattle.text.specs.Promises.{Writes, Beginning}
use Rattle.reader.specs.declared.errors.ReadError.{ReadError}
use Rattle.reader.specs.declared.document.Document.{Document}
use Rattle.reader.specs.Rows.{Outcome}
use Rattle.reader.specs.Documents.{Held}

-- The text is the one text of the document that is held, within the limits, and its table passes the checks.
pub record Accepted (text : List ℕ) (d : Document) : Type 0 where
  pub is : rules.Document
  pub held : Held d is
  pub writes : Writes text is

-- The text is refused by the rules, with this layer, cause and place.
-- It is no document's text. Where layer 1 or 2 refuses it, no text is accepted that has the same bytes before the place and the same mark at
-- it, what stands before the place begins some document's text (unless the text is too long), and layer and cause are those that belong to what stands there.
pub record Refused (text : List ℕ) (f : Fault) : Type 0 where
  pub says : Says text (refused (layer_number f.layer) (number_of f.cause) f.place)
  pub no_document : (d : rules.Document) → Writes text d → ⊥
  pub real :
      layer_number f.layer ≤ 2
      → (other : List ℕ) → take f.place other ≡ take f.place text → next (drop f.place other) ≡ next (drop f.place text)
      → (d : rules.Document) → Writes other d → ⊥
  pub first : layer_number f.layer ≤ 2 → length text ≤ 60000 → (f.place ≤ length text) × Beginning (take f.place text)
  pub cause : layer_number f.layer ≤ 2 → Told text f.place (layer_number f.layer) (number_of f.cause)

abbrev pub Answers : List ℕ → Result Document ReadError → Type 0
Answers text r = Outcome (Accepted text) (Refused text) r
