use Rattle.std.proofs.Common.{arith}
use Rattle.table.proofs.Firsts.{entry_within, target_within}
use Rattle.table.proofs.cuts.Aimed.is_good_slope.Goals as goal

pub offset_bounds-rows-e : goal.offset_bounds-rows-e
offset_bounds-rows-e c = omega (arith, entry_within _ c.args.self.now.whole.shape _ _ c.requires)

pub bounds-rows-e : goal.bounds-rows-e
bounds-rows-e c = entry_within _ c.args.self.now.whole.shape _ _ c.requires

pub bounds-rows-rows : goal.bounds-rows-rows
bounds-rows-rows c = target_within _ c.args.self.now.whole.shape c.args.self.now.aimed _ _ c.requires

pub offset_bounds-rows-e-2 : goal.offset_bounds-rows-e-2
offset_bounds-rows-e-2 c = omega (arith, entry_within _ c.args.self.now.whole.shape _ _ c.requires)

pub bounds-rows-e-2 : goal.bounds-rows-e-2
bounds-rows-e-2 c = omega (arith, entry_within _ c.args.self.now.whole.shape _ _ c.requires)
