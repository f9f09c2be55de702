use Rattle.std.proofs.Common.{◌≡◌, ℕ, List, [], map, sym, ap, ◌∙◌, subst, Bor, rules}
use Rattle.std.proofs.lemmas.Grind.{put_two}
use Rattle.std.proofs.lemmas.Iterator.{YieldsList-from_slice, YieldsList-from_zip}
use Rattle.std.proofs.lemmas.Iterator.Consumers.{YieldsList-end}
use Rattle.std.proofs.lemmas.List.{flat_map_more}
use Rattle.std.proofs.lemmas.List.Folds.{flat_map-map}
use Rattle.std.specs.Fmt.{HasWritten}
use Rattle.std.specs.List.{flat_map, zip}
use Rattle.text.specs.declared.Order.{Order}
use Rattle.session.specs.declared.reply.Reply.{Reply}
use Rattle.session.specs.Replies.{answer_of}
use Rattle.report.specs.Printed.{order_line}
use Rattle.report.proofs.OrderLines.{lines_by}
use Rattle.report.proofs.lines.LinesDisplay.fmt.Goals as goal

pub loop-order-preserved : goal.loop-order-preserved
loop-order-preserved g c p =
    let line : Bor Order × Bor Reply → List ℕ = λ p. order_line p.0.now (answer_of p.1.now) in
    put_two _ _ _ _ _ (line (c.in-Some.order, c.in-Some.reply)) _ (c.loop-order.invariant p) (search rules) (flat_map_more line [] c.loop-order.yielded (c.in-Some.order, c.in-Some.reply))

pub returns-clause-writes : goal.returns-clause-writes
returns-clause-writes g c p ok =
    let orders = c.args.self.now.orders.now in
    let replies = c.args.self.now.replies.now in
    let start = c.into_iter-order-iterator.result in
    let pairs : map (λ (p : Bor Order × Bor Reply). (p.0.now, p.1.now)) c.loop-order.yielded ≡ zip orders replies =
    (YieldsList-end (YieldsList-from_zip {s = start} (YieldsList-from_slice orders (search rules)) (YieldsList-from_slice replies (search rules))) c.loop-order.yielded c.loop-order.order-iterator c.loop-order.yielded_by c.next.result c.next.new.self c.in-None.is c.next.ensures.steps).0
    in
    let line : Order × Reply → List ℕ = λ p. order_line p.0 (answer_of p.1) in
    subst (λ z. HasWritten g.W.Write.write_str_gives c.args.f.now z c.loop-order.f) (sym (flat_map-map line _ c.loop-order.yielded) ∙ ap (flat_map line) pairs ∙ lines_by orders replies) (c.loop-order.invariant p)
