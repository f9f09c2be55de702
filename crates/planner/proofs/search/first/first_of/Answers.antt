use Rattle.std.proofs.Common.{◌+◌, length, sym, subst, arith}
use Rattle.queue.specs.declared.row_queue.Queue.{Queue}
use Rattle.planner.specs.Scans.{FirstRanked, none, some}
use Rattle.planner.proofs.Gathers.{Gathering, gathering_skip, gathering_put, gathered_takes, gathered_empty, taken_ok}
use Rattle.planner.proofs.search.first.first_of.Goals as goal
use Rattle.planner.proofs.search.first.first_of.Goals.{in-Some, in_default}

pub loop-u-preserved : goal.loop-u-preserved
loop-u-preserved g c =
    let P : Queue g.row.R.Denot → Type 0 = λ q. Gathering (goal.F-post g c.args.ranked) c.args.states (length c.args.row.now) q (c.loop-u.u + 1) in
    elim c.match-ranked.branch [
      | in-Some w ↦ subst P (sym w.queue-is) (gathering_put w.in-Some.rank w.put.result w.put.ensures.answer (omega (arith, c.loop-u-test.true)) w.in-Some.ensures c.loop-u.invariant)
      | in_default w ↦ subst P (sym w.queue-is) (gathering_skip w.in_default.ensures c.loop-u.invariant)
    ]

pub returns : goal.returns
returns g c room =
    let all = c.loop-u.invariant.held room in
    taken_ok (FirstRanked g.R.Rank.state g.R.Rank.precedes (goal.F-post g c.args.ranked) c.args.states) c.take.result c.ok.ensures.value c.take.ensures.answer
    (λ n taken. some n (gathered_takes (omega (arith, c.loop-u-test.false)) c.loop-u.queue.fits all taken))
    (λ x empty. none (λ u low. gathered_empty empty.1 all (omega (arith, c.loop-u-test.false))))
