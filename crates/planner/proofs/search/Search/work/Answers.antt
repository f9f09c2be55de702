use Rattle.std.proofs.Common.{sym, arith}
use Rattle.course.proofs.Lives.{life_held}
use Rattle.planner.specs.Searches.{search_state}
use Rattle.planner.proofs.Marked.{marks_inside}
use Rattle.planner.proofs.Working.{working_first, working_more, working_moves, working_stops, working_ends, working_at}
use Rattle.planner.proofs.search.Search.work.Goals as goal

pub loop-moves-init : goal.loop-moves-init
loop-moves-init g c cs life costs wishes =
    let law = g.B.Blank.lawful c.args.blank.now in (
      working_first law life,
      c.least_queued-least.ensures (marks_inside (search_state c.args.self.now) law (life_held law life).kept.marks) (omega (arith, costs, c.least_queued-least.auto.row)),
    )

pub loop-moves-preserved : goal.loop-moves-preserved
loop-moves-preserved g c cs life costs wishes =
    let law = g.B.Blank.lawful c.args.blank.now in
    let now = c.loop-moves.invariant cs life costs wishes in
    let made = working_moves c.loop-moves.least c.one_move-least.result _ law (omega (arith, c.loop-moves.auto.costs)) (omega (arith, c.loop-moves.auto.wishes)) c.in_default.ensures c.one_move-least.ensures now.0 now.1 in
    (working_more law c.in_default.ensures made.0 now.0, made.1)

pub returns-in-Some : goal.returns-in-Some
returns-in-Some g c cs life costs wishes = working_stops c.in-Some.word (omega arith) c.in-Some.ensures (c.loop-moves.invariant cs life (omega (arith, costs, c.least_queued-least.auto.row)) wishes).0

pub returns : goal.returns
returns g c cs life costs wishes = working_ends c.look-2.result (omega arith) (sym c.unwrap_or.ensures) c.look-2.ensures (working_at (omega arith) (c.loop-moves.invariant cs life (omega (arith, costs, c.least_queued-least.auto.row)) wishes).0)
