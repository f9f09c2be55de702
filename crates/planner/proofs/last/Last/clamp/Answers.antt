use Rattle.std.proofs.Common.{[], set, None, ◌∙◌, ap₂, rules}
use Rattle.std.proofs.lemmas.Grind.{merely}
use Rattle.course.specs.declared.machine.Mark.TheVariants.{Open}
use Rattle.planner.proofs.Marked.{fresh_marks, begins_life}
use Rattle.planner.proofs.last.Last.clamp.Goals as goal

pub invariant_of-result : goal.invariant_of-result
invariant_of-result g c =
    let law = g.B.Blank.lawful c.args.blank in
    record { lived = merely ([], begins_life law (fresh_marks law (c.set_mark.ensures.marks ∙ ap₂ (λ xs v. set xs v (Open (record { g = 0; from = None }))) c.clean.ensures.unseen c.start.ensures)) c.raise_floor.ensures) }

pub returns : goal.returns
returns g c = record { life = begins_life (g.B.Blank.lawful c.args.blank) (fresh_marks (g.B.Blank.lawful c.args.blank) (c.set_mark.ensures.marks ∙ ap₂ (λ xs v. set xs v (Open (record { g = 0; from = None }))) c.clean.ensures.unseen c.start.ensures)) c.raise_floor.ensures; blank = search rules; wish = search rules }
