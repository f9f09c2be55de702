use Rattle.std.proofs.Common.{◌-◌, vec_len}
use Rattle.reader.proofs.CutLines.{Sofar}
use Rattle.reader.proofs.marks.Reader.cut_line.Given as goal

abbrev pub invariant-loop-cuts : goal.invariant-loop-cuts
invariant-loop-cuts l = Sofar l.initial.self l.self l.initial.cuts l.cuts

abbrev pub decreases-loop-cuts : goal.decreases-loop-cuts
decreases-loop-cuts l = 8192 - vec_len l.cuts.targets
