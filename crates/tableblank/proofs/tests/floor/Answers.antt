use Rattle.std.proofs.Common.{ap, arith}
use Rattle.tableblank.proofs.tests.floor.Goals as goal

pub returns : goal.returns
returns g c =
    λ path cost w.
    let x = c.args.blank.now in
    omega (arith, (g.B.Blank.lawful x).never_over w, c.estimate.ensures, ap (g.B.Blank.meaning x).estimate c.start.ensures)
