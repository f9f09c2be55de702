use Rattle.reader.proofs.Whole.{body_read}
use Rattle.reader.proofs.marks.Reader.body.Goals as goal

pub returns : goal.returns
returns c =
    body_read c.args.head c.args.self.now c.state_lines.new.self c.estimates.new.self c.orders.new.self c.in_ok-lines.lines
    c.in_ok-estimates.estimates c.in_ok-orders.orders c.in_ok-lines.ensures c.in_ok-estimates.ensures
    c.in_ok-orders.ensures
