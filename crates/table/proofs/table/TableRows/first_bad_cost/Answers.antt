use Rattle.std.proofs.Common.{refl, arith, below_more}
use Rattle.std.proofs.lemmas.Bool.Decides.{not_from_Decides}
use Rattle.table.specs.Table.{cost}
use Rattle.table.proofs.Causes.{bad_eight}
use Rattle.table.proofs.Firsts.{first_at}
use Rattle.table.proofs.table.TableRows.first_bad_cost.Goals as goal

pub returns-then-not-is_good_cost : goal.returns-then-not-is_good_cost
returns-then-not-is_good_cost c =
    first_at _ _ c.loop-i.invariant (cost c.loop-i.i (omega arith) (not_from_Decides _ c.is_good_cost.ensures c.if-not-is_good_cost.true))

pub loop-i-preserved : goal.loop-i-preserved
loop-i-preserved c = below_more _ _ c.loop-i.invariant (λ x. (bad_eight _ _ x).1 (c.if-not-is_good_cost.ensures.0 refl))

pub returns : goal.returns
returns c = λ e x. c.loop-i.invariant e (omega (arith, (bad_eight _ _ x).0)) x
