use Rattle.std.proofs.Common.{replicate, ap, ◌∙◌}
use Rattle.course.specs.declared.machine.Mark.TheVariants.{Unseen}
use Rattle.planner.proofs.bench.Bench.clean.Goals as goal

pub returns : goal.returns
returns c = record {
  unseen = c.fill.ensures.items (λ y e. e) ∙ ap (λ n. replicate n Unseen) c.args.self.now.marks_full;
  blank = c.fill-2.ensures.items (λ y e. e) ∙ ap (λ n. replicate n 0) c.args.self.now.path_full;
}
