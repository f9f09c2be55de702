use Rattle.std.specs.Fmt.{HasWritten, IsPlainFormatter}
use Rattle.std.specs.List.{flat_map}
use Rattle.session.specs.Replies.{answer_of}
use Rattle.report.specs.Printed.{order_line}
use Rattle.report.proofs.lines.LinesDisplay.fmt.Given as goal

abbrev pub invariant-loop-order : goal.invariant-loop-order
invariant-loop-order g l =
    IsPlainFormatter l.initial.f → HasWritten g.W.Write.write_str_gives l.initial.f (flat_map (λ p. order_line p.0.now (answer_of p.1.now)) l.yielded) l.f
