use Rattle.std.proofs.Common.{rules}
use Rattle.table.specs.Table.{GoodSlope, Bad, slope}
use Rattle.table.specs.Checks.{rows_in}
use Rattle.table.proofs.Causes.{bad_ten}
use Rattle.table.proofs.Firsts.{first_bad}
use Rattle.table.proofs.cuts.Aimed.first_steep_estimate.Goals as goal

pub returns : goal.returns
returns c =
    let r = rows_in c.args.self.now.whole.rows in
    first_bad r _ (GoodSlope r) (Bad r 10) _ c.first_failing.ensures (λ u e b k x. search rules) slope (bad_ten r)
