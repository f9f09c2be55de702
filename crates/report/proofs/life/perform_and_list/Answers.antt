use Rattle.std.proofs.Common.{◌≡◌, List, map, IfOk, vec_items, string_bytes, refl, subst, arith}
use Rattle.std.proofs.lemmas.Result.{IfOk-from_err, IfOk-at_ok}
use Rattle.session.specs.declared.reply.Reply.{Reply}
use Rattle.session.specs.Replies.{answer_of}
use Rattle.report.specs.Printed.{order_lines}
use Rattle.report.proofs.OrderLines.{printed_orders}
use Rattle.report.proofs.life.perform_and_list.Goals as goal

pub returns-in_err-wishes : goal.returns-in_err-wishes
returns-in_err-wishes g c = IfOk-from_err _ _ c.from_residual-in_err-wishes.ensures.0

pub returns-in_err-row : goal.returns-in_err-row
returns-in_err-row g c = IfOk-from_err _ _ c.from_residual-in_err-row.ensures.0

pub returns-in_err-replies : goal.returns-in_err-replies
returns-in_err-replies g c = IfOk-from_err _ _ c.from_residual-in_err-replies.ensures.0

pub returns : goal.returns
returns g c =
    let replies = c.in_ok-replies.replies in
    let lived = IfOk-at_ok _ c.in_ok-replies.was c.perform_all-replies.ensures.lived in
    let L : List Reply → Type 0 = λ xs. IfOk c.format.result (λ s. string_bytes s ≡ order_lines c.args.orders.now (map answer_of xs)) in
    printed_orders c.args.orders.now (vec_items replies) string_bytes c.format.result
    (omega (arith, c.deref_mut.ensures.len, c.in_ok-costs.ensures.len)) (omega (arith, c.deref_mut-2.ensures.len, c.in_ok-wishes.ensures.len)) (omega (arith, c.deref_mut-3.ensures.len, c.in_ok-row.ensures.len)) refl
    lived (subst L c.deref.ensures.value c.format.ensures.ok)
