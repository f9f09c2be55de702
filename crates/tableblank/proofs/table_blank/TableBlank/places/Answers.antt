use Rattle.std.proofs.Common.{arith}
use Rattle.table.specs.Checks.{rows_in}
use Rattle.tableblank.proofs.Parts.{places_are}
use Rattle.tableblank.proofs.table_blank.TableBlank.places.Goals as goal

pub overflow_cast-result : goal.overflow_cast-result
overflow_cast-result c = let x = c.args.self.now in omega (arith, places_are (rows_in x.rows) x.sound c.args.state _ c.row.ensures.targets)

pub returns : goal.returns
returns c = let x = c.args.self.now in omega (arith, places_are (rows_in x.rows) x.sound c.args.state _ c.row.ensures.targets)
