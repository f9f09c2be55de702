use Rattle.std.proofs.Common.{arith}
use Rattle.std.proofs.lemmas.Grind.{common_steps}
use Rattle.course.proofs.Answers.{does_show}
use Rattle.planner.proofs.Lived.{floor_lived}
use Rattle.planner.proofs.Shows.{shows_as}
use Rattle.planner.proofs.last.Last.show.Goals as goal

pub returns : goal.returns
returns g c =
    let does = shows_as _ (grind (arith, common_steps)) in
    let law = g.B.Blank.lawful c.args.self.now.blank in
    record { does = does; floor_under = floor_lived law c.args.self.now.lived; truly = record { some = c.args.self.now.lived; every = λ cs life. does_show law life does } }
