use Rattle.std.proofs.Common.{rules}
use Rattle.table.specs.Table.{GoodTarget, Bad, target}
use Rattle.table.specs.Checks.{rows_in}
use Rattle.table.proofs.Causes.{bad_seven}
use Rattle.table.proofs.Firsts.{first_bad}
use Rattle.table.proofs.cuts.Whole.first_bad_target.Goals as goal

pub returns : goal.returns
returns c =
    let r = rows_in c.args.self.now.rows in
    first_bad r _ (GoodTarget r) (Bad r 7) _ c.first_failing.ensures (λ u e b k x. search rules) target (bad_seven r)
