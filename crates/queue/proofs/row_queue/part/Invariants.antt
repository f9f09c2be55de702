use Rattle.std.proofs.Common.{◌-◌}
use Rattle.queue.proofs.Strikes.{Parting}
use Rattle.queue.proofs.row_queue.part.Given as goal

abbrev pub invariant-loop-i : goal.invariant-loop-i
invariant-loop-i g l = Parting g.R.Rank.state l.struck l.initial.held l.held l.i l.stay

abbrev pub decreases-loop-i : goal.decreases-loop-i
decreases-loop-i g l = l.stay - l.i
