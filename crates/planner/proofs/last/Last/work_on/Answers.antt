use Rattle.planner.proofs.Lived.{led_by_work}
use Rattle.planner.proofs.Working.{accepted_work}
use Rattle.planner.proofs.last.Last.work_on.Goals as goal

pub invariant_of-self : goal.invariant_of-self
invariant_of-self g c = record { lived = led_by_work c.args.budget c.requires.allowed c.args.self.now.lived (λ cs life. c.work.ensures cs life c.requires.rows.0 c.requires.rows.1) }

pub returns-clause-worked : goal.returns-clause-worked
returns-clause-worked g c =
    accepted_work (g.B.Blank.lawful c.args.self.now.blank) c.args.self.now.lived c.requires.rows.0 c.requires.rows.1 c.requires.allowed (λ cs life. c.work.ensures cs life c.requires.rows.0 c.requires.rows.1)
