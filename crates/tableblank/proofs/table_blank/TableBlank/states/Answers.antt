use Rattle.std.proofs.Common.{arith}
use Rattle.table.specs.Checks.{rows_in}
use Rattle.tableblank.specs.Passed.{passes_shape}
use Rattle.tableblank.proofs.table_blank.TableBlank.states.Goals as goal

pub overflow_cast-result : goal.overflow_cast-result
overflow_cast-result c = let x = c.args.self.now in omega (arith, (passes_shape (rows_in x.rows) x.sound).few)
