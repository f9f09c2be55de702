use Rattle.std.proofs.Common.{◌≡◌, ◌++◌, ◌∷◌, [], vec_items, string_bytes, Err, subst}
use Rattle.std.proofs.lemmas.Result.{IfOk-weaker}
use Rattle.text.specs.FaultText.{fault_text}
use Rattle.tableblank.specs.Tabled.{tabled}
use Rattle.reader.specs.Documents.{rows_of}
use Rattle.reader.specs.Verdict.{Answers}
use Rattle.report.specs.Printed.{PrintsOrders, Prints}
use Rattle.report.proofs.Answered.{accepted_printed, refused_printed, accepted_passes}
use Rattle.report.proofs.answer.Goals as goal

pub life_of-requires : goal.life_of-requires
life_of-requires c = accepted_passes c.args.text.now c.in-Ok.document c.in-Ok.ensures.verdict

pub returns-in-Ok : goal.returns-in-Ok
returns-in-Ok c =
    IfOk-weaker c.life_of.result (λ s. PrintsOrders (tabled (rows_of c.in-Ok.document)) (vec_items c.in-Ok.document.orders) (string_bytes s))
    (λ s. Prints c.args.text.now (string_bytes s))
    (λ s e. accepted_printed c.args.text.now c.in-Ok.document (string_bytes s) c.in-Ok.ensures.verdict e)
    c.life_of.ensures

pub returns-in-Err-AtFault : goal.returns-in-Err-AtFault
returns-in-Err-AtFault c =
    IfOk-weaker c.fault_line.result (λ s. string_bytes s ≡ fault_text c.in-Err-AtFault.fault ++ 10 ∷ []) (λ s. Prints c.args.text.now (string_bytes s))
    (λ s e. refused_printed c.args.text.now c.in-Err-AtFault.fault (string_bytes s) (subst (λ e. Answers c.args.text.now (Err e)) c.in-Err-AtFault.field-0-is c.in-Err-AtFault.ensures.verdict) e)
    c.fault_line.ensures
