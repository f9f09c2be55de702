-- What is printed is what the verdict says.
use Rattle.std.proofs.Common.{◌≡◌, ℕ, List, [], ◌∷◌, ◌++◌, Err, vec_items, sym, subst, subst₂}
use Rattle.course.specs.Refusals.{number_of}
use Rattle.table.specs.Table.{Rows, Passes}
use Rattle.tableblank.specs.Tabled.{tabled}
use Rattle.text.specs.declared.Order.{Order}
use Rattle.text.specs.declared.Fault.{Fault}
use Rattle.text.specs.FaultText.{fault_text}
use Rattle.text.specs.Layers.{layer_number}
use Rattle.text.specs.Verdicts.{Verdict, Says, accepted, refused}
use Rattle.text.proofs.Documents.{accepted_is_written}
use Rattle.text.proofs.Faults.{verdict_once}
use Rattle.reader.specs.declared.document.Document.{Document}
use Rattle.reader.specs.Documents.{rows_of}
use Rattle.reader.specs.declared.errors.ReadError.TheVariants.{AtFault}
use Rattle.reader.specs.Verdict.{Accepted, Answers}
use Rattle.report.specs.Printed.{PrintsOrders, PrintedFor, Prints}

-- The bytes are what is printed for a verdict that the text has.
prints : (text out : List ℕ) (w : Verdict) → Says text w → PrintedFor w out → Prints text out
prints text out w says e v s = subst (λ (x : Verdict). PrintedFor x out) (verdict_once text w v says s) e

pub accepted_printed :
    (text : List ℕ) (d : Document) (out : List ℕ) → Accepted text d → PrintsOrders (tabled (rows_of d)) (vec_items d.orders) out → Prints text out
accepted_printed text d out a e =
    let P : Rows → List Order → Type 0 = λ rows orders. PrintsOrders (tabled rows) orders out in
    prints text out (accepted a.is) ((accepted_is_written text a.is).1 a.writes) (subst₂ P a.held.rows a.held.orders e)

pub refused_printed : (text : List ℕ) (f : Fault) (out : List ℕ) → Answers text (Err (AtFault f)) → out ≡ fault_text f ++ 10 ∷ [] → Prints text out
refused_printed text f out r e = prints text out (refused (layer_number f.layer) (number_of f.cause) f.place) r.says e

pub accepted_passes : (text : List ℕ) (d : Document) → Accepted text d → Passes (rows_of d)
accepted_passes text d a = subst Passes (sym a.held.rows) a.writes.passes
