use Rattle.std.proofs.Common.{arith}
use Rattle.table.specs.Table.{Holds}
use Rattle.table.specs.Checks.{rows_in, none}
use Rattle.table.proofs.Firsts.{passed_more, failing_at}
use Rattle.table.proofs.cuts.Whole.first_failing.Goals as goal
use Rattle.table.proofs.cuts.Whole.first_failing.Given.{Over}
use Rattle.table.proofs.cuts.Whole.first_failing.Goals.{In-Some}

-- The entry at hand is the state's.
held : (g : Over) (c : In-Some g) → Holds (rows_in c.args.self.now.rows) c.loop-u.u c.in-Some.e
held g c =
    record {
      state = omega arith;
      after = omega (arith, c.in-Some.ensures.steps, c.loop-e.invariant.from);
      before = omega (arith, c.in-Some.ensures.steps, c.loop-e.invariant.to);
    }

pub is_good-requires : goal.is_good-requires
is_good-requires g c = c.requires _ _ (held g (goal.at.is_good-requires g c).In-Some)

pub returns-then-not-is_good : goal.returns-then-not-is_good
returns-then-not-is_good g c =
    failing_at (rows_in c.args.self.now.rows) c.args.self.now.shape (goal.F-post g c.args.is_good) c.loop-u.u c.in-Some.e c.loop-u.invariant
    (held g (goal.at.returns-then-not-is_good g c).In-Some) c.if-not-is_good.ensures
    (λ k h s. c.loop-e.invariant.passed k h (omega (arith, c.in-Some.ensures.steps)))

pub loop-u-preserved : goal.loop-u-preserved
loop-u-preserved g c =
    passed_more (rows_in c.args.self.now.rows) (goal.F-post g c.args.is_good) c.loop-u.u c.loop-u.invariant
    (λ k h. c.loop-e.invariant.passed k h (omega (arith, h.before, c.in-None.ensures.steps, c.loop-e.invariant.to)))

pub returns : goal.returns
returns g c = none (λ u e h. c.loop-u.invariant u e h (omega (arith, h.state)))
