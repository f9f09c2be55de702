use Rattle.std.proofs.Common.{◌≡◌, arith}
use Rattle.reader.specs.Readings.{rest, told}
use Rattle.reader.specs.Rows.{LineRead, line_from, room}
use Rattle.reader.proofs.Steps.{hands_up}
use Rattle.reader.proofs.StateLines.{lines_start, lines_more, lines_fault, lines_end}
use Rattle.reader.proofs.marks.Reader.state_lines.Goals as goal

pub loop-u-init : goal.loop-u-init
loop-u-init c = lines_start c.args.states c.args.self.now c.new-lines.result c.new-lines.ensures

pub loop-u-preserved : goal.loop-u-preserved
loop-u-preserved c = lines_more c.loop-u.invariant c.loop-u-test.true c.in_ok-state_line.ensures

pub returns-in_err-state_line : goal.returns-in_err-state_line
returns-in_err-state_line c =
    hands_up _ _ (λ (_ : Unit {0}). LineRead c.loop-u.u c.loop-u.self c.state_line.new.self c.loop-u.lines c.state_line.new.lines)
    (λ f. line_from c.loop-u.u (room c.loop-u.lines.cuts) c.loop-u.self.at (rest c.loop-u.self) ≡ told f) c.in_err-state_line.field-0.0
    c.from_residual.result c.from_residual.ensures.1 c.in_err-state_line.ensures (λ f h. lines_fault f c.loop-u.invariant c.loop-u-test.true h)

pub returns : goal.returns
returns c = lines_end c.loop-u.invariant (omega arith) c.in_ok-begin.ensures.0 c.in_ok-begin.ensures.1
