use Rattle.std.proofs.Common.{length}
use Rattle.trials.proofs.run.Given as goal

-- Each frame is taken off what is left.
abbrev pub decreases-loop-rest : goal.decreases-loop-rest
decreases-loop-rest l = length l.rest
