use Rattle.std.proofs.Common.{sym, arith}
use Rattle.course.specs.Blanks.{Leads}
use Rattle.tableblank.proofs.tests.by_cut.Goals as goal

pub overflow_add-result : goal.overflow_add-result
overflow_add-result g c =
    let x = c.args.blank.now in
    let law = g.B.Blank.lawful x in
    let a : Leads (g.B.Blank.meaning x) c.args.state c.in_ok-to.to c.in_ok-to.cost =
    record { place = c.args.place; holds = sym c.in_ok-to.ensures } in
    omega (arith, law.cost_most a, law.estimate_most c.in_ok-to.to, c.estimate.ensures)
