-- The verdict on a text, with all that is promised of it.
use Rattle.std.proofs.Common.{◌≡◌, ℕ, ◌<◌, ◌≤◌, List, length, sym, refl, ap, ◌∙◌, subst, arith}
use Rattle.course.specs.Refusals.{number_of}
use Rattle.table.specs.Table.{Rows, Passes, Worst}
use Rattle.text.specs.declared.Fault.{Fault}
use Rattle.text.specs.declared.Layer.TheVariants.{Table}
use Rattle.text.specs.Layers.{layer_number}
use Rattle.text.specs.Forms.{Got, got, fault}
use Rattle.text.specs.Document as rules
use Rattle.text.specs.Reading.{document, parsed}
use Rattle.text.specs.Verdicts.{Verdict, Says, Concludes, accepted, refused}
use Rattle.text.proofs.Documents.{accepted_is_written, parsed_short, parsed_long}
use Rattle.text.proofs.Faults.{verdict_once, faults_are_real}
use Rattle.text.proofs.Begun.{faults_are_first}
use Rattle.text.proofs.Causes.{causes_are_told}
use Rattle.reader.specs.declared.document.Document.{Document}
use Rattle.reader.specs.Readings.{told}
use Rattle.reader.specs.Documents.{rows_of, DocumentRead}
use Rattle.reader.specs.Verdict.{Accepted, Refused}

apart : {d : rules.Document} {l c p : ℕ} → accepted d ≡ refused l c p → ⊥
apart e = let z : ◌≡◌ {A = ℕ} 0 1 = cc in omega arith

refused_by : (text : List ℕ) (f : Fault) → Says text (refused (layer_number f.layer) (number_of f.cause) f.place) → Refused text f
refused_by text f s =
    let l = layer_number f.layer in
    let c = number_of f.cause in
    let p = f.place in
    record {
      says = s;
      no_document = λ d w. apart (verdict_once text (accepted d) (refused l c p) ((accepted_is_written text d).1 w) s);
      real = λ low other same mark d w. faults_are_real text other l c p s low same mark d ((accepted_is_written other d).1 w);
      first = λ low fits. faults_are_first text l c p fits s low;
      cause = λ low. causes_are_told text l c p s low;
    }

-- A fault of the reading is the verdict.
read_fault : (text : List ℕ) (f : Fault) → parsed text ≡ told f → Refused text f
read_fault text f e =
    refused_by text f
    (let P : Got rules.Document → Type 0 = λ g. Concludes g (refused (layer_number f.layer) (number_of f.cause) f.place) in subst P (sym e) refl)

pub too_long : (text : List ℕ) (f : Fault) → 60000 < length text → told {B = rules.Document} f ≡ fault 2 4 60000 → Refused text f
too_long text f h e = read_fault text f (parsed_long text h ∙ sym e)

pub at_fault : (text : List ℕ) (f : Fault) → length text ≤ 60000 → document text ≡ told f → Refused text f
at_fault text f h e = read_fault text f (parsed_short text h ∙ e)

concluded : (text : List ℕ) (d : rules.Document) (p : ℕ) (left : List ℕ) (v : Verdict) → length text ≤ 60000 → document text ≡ got d p left → Concludes (got d p left) v → Says text v
concluded text d p left v h e c = let P : Got rules.Document → Type 0 = λ g. Concludes g v in subst P (sym (parsed_short text h ∙ e)) c

pub bad_table : (text : List ℕ) (d : Document) (f : Fault) → length text ≤ 60000 → DocumentRead text d → (f.layer ≡ Table) × Worst (rows_of d) (number_of f.cause) f.place → Refused text f
bad_table text d f h r w =
    refused_by text f
    (concluded text r.is r.place r.left (refused (layer_number f.layer) (number_of f.cause) f.place) h r.reads
    (ap layer_number w.0, (let P : Rows → Type 0 = λ rows. Worst rows (number_of f.cause) f.place in subst P r.held.rows w.1)))

pub good_table : (text : List ℕ) (d : Document) → length text ≤ 60000 → DocumentRead text d → Passes (rows_of d) → Accepted text d
good_table text d h r w =
    record {
      is = r.is;
      held = r.held;
      writes = (accepted_is_written text r.is).0 (concluded text r.is r.place r.left (accepted r.is) h r.reads (refl, subst Passes r.held.rows w));
    }
