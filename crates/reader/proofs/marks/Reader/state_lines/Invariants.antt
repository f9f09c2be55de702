use Rattle.reader.proofs.StateLines.{SofarLines}
use Rattle.reader.proofs.marks.Reader.state_lines.Given as goal

abbrev pub invariant-loop-u : goal.invariant-loop-u
invariant-loop-u l = SofarLines l.states l.u l.initial.self l.self l.lines
