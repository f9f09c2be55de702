use Rattle.std.proofs.Common.{◌≡◌, ◌+◌, ◌≤◌, get_or}
use Rattle.table.specs.Checks.{rows_in}
use Rattle.table.proofs.Firsts.{Passed, PassedOf}
use Rattle.table.proofs.cuts.Whole.first_failing.Given as goal

abbrev pub invariant-loop-u : goal.invariant-loop-u
invariant-loop-u g l = Passed (rows_in l.self.rows) (goal.F-post g l.is_good) l.u

abbrev pub invariant-loop-e : goal.invariant-loop-e
invariant-loop-e g l = record {
  passed : PassedOf (rows_in l.self.rows) (goal.F-post g l.is_good) l.u l.e-iterator.start;
  from : get_or (rows_in l.self.rows).firsts l.u 0 ≤ l.e-iterator.start;
  to : l.e-iterator.end ≡ get_or (rows_in l.self.rows).firsts (l.u + 1) 0;
}
