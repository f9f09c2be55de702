-- The verdict on every text.
use Rattle.std.specs.Prelude.{◌≡◌, ℕ, List}
use Rattle.text.specs.Forms.{Got, got, fault}
use Rattle.text.specs.Document.{Document}
use Rattle.text.specs.Reading.{parsed}
use Rattle.table.specs.Table.{Passes, Worst}
use Rattle.text.specs.Rows.{table_rows}

-- A text is accepted, with the document that it holds, or refused, with a fault's layer, cause and place. In layer 3 the place is not one in
-- the text, but the entry or the state at fault, or 0.
pub data Verdict : Type 0 where
  accepted : Document → Verdict
  refused : ℕ → ℕ → ℕ → Verdict

-- The verdict on a document that was read to the end: it is accepted where its table passes, and else refused for the smallest cause at the
-- least place.
abbrev pub Checked : Document → Verdict → Type 0
Checked d (accepted e) = (e ≡ d) × Passes (table_rows d)
Checked d (refused layer cause place) = (layer ≡ 3) × Worst (table_rows d) cause place

-- The verdict on what a reading came to: a fault is the verdict.
abbrev pub Concludes : Got Document → Verdict → Type 0
Concludes (got d p bs) v = Checked d v
Concludes (fault l c p) v = v ≡ refused l c p

-- The verdict on a text.
abbrev pub Says : List ℕ → Verdict → Type 0
Says text v = Concludes (parsed text) v
