use Rattle.table.specs.Table.{Bad}
use Rattle.table.specs.Checks.{rows_in}
use Rattle.table.proofs.Firsts.{Clear}
use Rattle.table.proofs.table.TableRows.first_bad_cost.Given as goal

abbrev pub invariant-loop-i : goal.invariant-loop-i
invariant-loop-i l = Clear (Bad (rows_in l.self) 8) l.i
