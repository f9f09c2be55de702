use Rattle.std.proofs.Common.{length}
use Rattle.planner.proofs.Gathers.{Gathering}
use Rattle.planner.proofs.search.first.first_of.Given as goal

abbrev pub invariant-loop-u : goal.invariant-loop-u
invariant-loop-u g l = Gathering (goal.F-post g l.ranked) l.states (length l.fn.row) l.queue l.u
