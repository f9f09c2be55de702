-- The document that the reader holds.
use Rattle.std.specs.Prelude.{◌≡◌, ℕ, List, Ok, Err, vec_items, Result}
use Rattle.course.specs.Refusals.{number_of}
use Rattle.table.specs.Table.{Rows, Passes, Worst}
use Rattle.text.specs.declared.Fault.{Fault}
use Rattle.text.specs.declared.Layer.TheVariants.{Table}
use Rattle.text.specs.Forms.{got}
use Rattle.text.specs.Document as rules
use Rattle.text.specs.Rows.{table_rows}
use Rattle.text.specs.Reading.{body, document}
use Rattle.reader.specs.declared.errors.ReadError.{ReadError}
use Rattle.reader.specs.declared.marks.Reader.{Reader}
use Rattle.reader.specs.declared.forms.Head.{Head}
use Rattle.reader.specs.declared.document.Document.{Document}
use Rattle.reader.specs.Readings.{rest, told}
use Rattle.reader.specs.Rows.{Outcome}

-- The rows of its table.
abbrev pub rows_of : Document → Rows
rows_of d =
    record {
      firsts = vec_items d.firsts;
      targets = vec_items d.targets;
      costs = vec_items d.costs;
      estimates = vec_items d.estimates;
      start = d.start;
      goal = d.goal;
    }

-- It holds a document of the rules.
pub record Held (d : Document) (e : rules.Document) : Type 0 where
  pub rows : rows_of d ≡ table_rows e
  pub orders : vec_items d.orders ≡ e.orders

-- What follows the first line was read, and is held.
pub record BodyRead (h : Head) (from to : Reader) (d : Document) : Type 0 where
  pub is : rules.Document
  pub reads : body h.states h.start h.goal from.at (rest from) ≡ got is to.at (rest to)
  pub held : Held d is

abbrev pub BodyTold : Head → Reader → Reader → Result Document ReadError → Type 0
BodyTold h from to r = Outcome (BodyRead h from to) (λ f. body h.states h.start h.goal from.at (rest from) ≡ told f) r

-- The text was read to its end, and what it says is held.
pub record DocumentRead (text : List ℕ) (d : Document) : Type 0 where
  pub is : rules.Document
  pub place : ℕ
  pub left : List ℕ
  pub reads : document text ≡ got is place left
  pub held : Held d is

abbrev pub DocumentTold : List ℕ → Result Document ReadError → Type 0
DocumentTold text r = Outcome (DocumentRead text) (λ f. document text ≡ told f) r

-- The table passes its checks, or this fault of its layer is the worst.
abbrev pub CheckTold : Rows → Result (Unit {0}) Fault → Type 0
CheckTold rows (Ok _) = Passes rows
CheckTold rows (Err f) = (f.layer ≡ Table) × Worst rows (number_of f.cause) f.place
