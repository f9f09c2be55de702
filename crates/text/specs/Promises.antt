-- What is promised of the verdicts.
use Rattle.std.specs.Prelude.{◌≡◌, ℕ, ◌≤◌, List, ◌++◌, length, take, drop}
use Rattle.text.specs.Marks.{next}
use Rattle.text.specs.Document.{Document, WellFormed, Shaped, written}
use Rattle.table.specs.Table.{Passes}
use Rattle.text.specs.Rows.{table_rows}
use Rattle.text.specs.Verdicts.{Verdict, Says, accepted, refused}
use Rattle.text.specs.Causes.{Told, Miscounted}

-- The text is the document's and is not too long, the document is within the limits, and its table passes the checks.
pub record Writes (text : List ℕ) (d : Document) : Type 0 where
  pub is : text ≡ written d
  pub fits : length text ≤ 60000
  pub well : WellFormed d
  pub passes : Passes (table_rows d)

-- A text is accepted with a document exactly where it is the document's text.
abbrev pub AcceptedIsWritten : Type 0
AcceptedIsWritten = (text : List ℕ) (d : Document) → (Says text (accepted d) → Writes text d) × (Writes text d → Says text (accepted d))

-- No two documents share a text.
abbrev pub WrittenOnce : Type 0
WrittenOnce = (d e : Document) → WellFormed d → WellFormed e → written d ≡ written e → d ≡ e

-- Every text has a verdict.
abbrev pub VerdictStands : Type 0
VerdictStands = (text : List ℕ) → (v : Verdict) × Says text v

-- A text has one verdict.
abbrev pub VerdictOnce : Type 0
VerdictOnce = (text : List ℕ) (v w : Verdict) → Says text v → Says text w → v ≡ w

-- Where a text is refused by layer 1 or 2, no text is accepted that has the same bytes before the place told and the same mark at it.
abbrev pub FaultsAreReal : Type 0
FaultsAreReal =
    (text other : List ℕ) (layer cause place : ℕ)
    → Says text (refused layer cause place) → layer ≤ 2
    → take place other ≡ take place text → next (drop place other) ≡ next (drop place text)
    → (d : Document) → Says other (accepted d) → ⊥

-- The bytes are the beginning of some document's text, its limits on size aside.
pub record Beginning (bs : List ℕ) : Type 0 where
  pub document : Document
  pub shaped : Shaped document
  pub rest : List ℕ
  pub is : written document ≡ bs ++ rest

-- Where a text that is not too long is refused by layer 1 or 2, what stands before the place told is the beginning of a document's text.
abbrev pub FaultsAreFirst : Type 0
FaultsAreFirst =
    (text : List ℕ) (layer cause place : ℕ)
    → length text ≤ 60000 → Says text (refused layer cause place) → layer ≤ 2 → (place ≤ length text) × Beginning (take place text)

-- Where a text is refused by layer 1 or 2, the layer and the cause are those that belong to what stands at the place told.
abbrev pub CausesAreTold : Type 0
CausesAreTold =
    (text : List ℕ) (layer cause place : ℕ) → Says text (refused layer cause place) → layer ≤ 2 → Told text place layer cause

-- One layer and one cause belong to what stands at a place.
abbrev pub OneCause : Type 0
OneCause =
    (text : List ℕ) (place l c k d : ℕ) → Told text place l c → Told text place k d → (l ≡ k) × (c ≡ d)

-- A text is refused with layer 2 and cause 4 exactly at a place to which these belong: where it is too long, and where it has a cut too many.
abbrev pub TooMuchIsTold : Type 0
TooMuchIsTold =
    (text : List ℕ) (place : ℕ) → (Says text (refused 2 4 place) → Told text place 2 4) × (Told text place 2 4 → Says text (refused 2 4 place))

-- A text is refused for its number of states exactly where it is not too long and its first line is whole and says a number that is not
-- allowed, whatever follows that line. The place told is then 0.
abbrev pub BadCountIsTold : Type 0
BadCountIsTold =
    (text : List ℕ) (place : ℕ)
    → (Says text (refused 3 5 place) → (place ≡ 0) × (length text ≤ 60000) × Miscounted text)
    × ((place ≡ 0) × (length text ≤ 60000) × Miscounted text → Says text (refused 3 5 place))

-- All of it: the laws of the verdicts on every text.
pub record VerdictLaws : Type 0 where
  pub accepted_is_written : AcceptedIsWritten
  pub written_once : WrittenOnce
  pub stands : VerdictStands
  pub once : VerdictOnce
  pub faults_are_real : FaultsAreReal
  pub faults_are_first : FaultsAreFirst
  pub causes_are_told : CausesAreTold
  pub one_cause : OneCause
  pub too_much_is_told : TooMuchIsTold
  pub bad_count_is_told : BadCountIsTold
