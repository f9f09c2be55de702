use Rattle.text.specs.declared.Order.{Order}
use Rattle.std.proofs.Common.{List, is_ok, sym, ap, subst}
use Rattle.std.proofs.ResultArms.{chosen}
use Rattle.reader.proofs.Steps.{passes_out}
use Rattle.reader.proofs.OrderLines.{SofarOrders, orders_start, orders_more, orders_fault, orders_end, line_takes}
use Rattle.reader.proofs.marks.Reader.orders.Goals as goal

pub loop-self-init : goal.loop-self-init
loop-self-init c =
    subst (SofarOrders c.args.self.now c.args.self.now) (sym c.new-orders.ensures.items) (orders_start c.args.self.now)

pub returns-in_err-order_line : goal.returns-in_err-order_line
returns-in_err-order_line c =
    let e = c.in_err-order_line.field-0.0 in
    passes_out _ _ e c.from_residual.result c.from_residual.ensures.1 (orders_fault e c.loop-self.invariant c.loop-self-test.true c.in_err-order_line.ensures)

pub loop-self-smaller : goal.loop-self-smaller
loop-self-smaller c = line_takes c.in_ok-order_line.ensures

pub loop-self-preserved : goal.loop-self-preserved
loop-self-preserved c =
    let pushed = chosen {X = List Order} _ _ _ _ c.push.ensures.items (ap is_ok c.in_ok-push.was) in
    subst (SofarOrders c.args.self.now c.order_line.new.self) (sym pushed)
    (orders_more c.in_ok-order_line.field-0 c.loop-self.invariant c.loop-self-test.true c.in_ok-order_line.ensures)

pub returns : goal.returns
returns c = orders_end c.loop-self.invariant c.loop-self-test.false
