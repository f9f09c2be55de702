use Rattle.std.proofs.Common.{arith}
use Rattle.table.proofs.Firsts.{entry_within}
use Rattle.table.proofs.cuts.Whole.is_good_target.Goals as goal

pub offset_bounds-rows-e : goal.offset_bounds-rows-e
offset_bounds-rows-e c = omega (arith, entry_within _ c.args.self.now.shape _ _ c.requires)

pub bounds-rows-e : goal.bounds-rows-e
bounds-rows-e c = entry_within _ c.args.self.now.shape _ _ c.requires

pub offset_bounds-rows-e-else-e-rows : goal.offset_bounds-rows-e-else-e-rows
offset_bounds-rows-e-else-e-rows c = omega (arith, entry_within _ c.args.self.now.shape _ _ c.requires)

pub bounds-rows-e-else-e-rows : goal.bounds-rows-e-else-e-rows
bounds-rows-e-else-e-rows c = omega (arith, entry_within _ c.args.self.now.shape _ _ c.requires)
