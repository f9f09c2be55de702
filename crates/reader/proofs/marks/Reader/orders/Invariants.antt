use Rattle.std.proofs.Common.{length, vec_items}
use Rattle.reader.specs.Readings.{rest}
use Rattle.reader.proofs.OrderLines.{SofarOrders}
use Rattle.reader.proofs.marks.Reader.orders.Given as goal

abbrev pub invariant-loop-self : goal.invariant-loop-self
invariant-loop-self l = SofarOrders l.initial.self l.self (vec_items l.orders)

abbrev pub decreases-loop-self : goal.decreases-loop-self
decreases-loop-self l = length (rest l.self)
