use Rattle.std.proofs.Common.{arith, rules}
use Rattle.planner.specs.Searches.{search_state}
use Rattle.planner.proofs.Queued.{cost_found, cost_none}
use Rattle.planner.proofs.search.Search.least_queued.Goals as goal

pub returns-in_err-first : goal.returns-in_err-first
returns-in_err-first g c inside room =
    rw c.from_residual.ensures (cost_none (g.B.Blank.meaning c.args.blank.now) (search_state c.args.self.now) _ c.states.ensures inside (c.in_err-first.ensures (omega (arith, room, c.states.ensures))) (λ u o low is. search rules))

pub returns : goal.returns
returns g c inside room =
    cost_found (g.B.Blank.meaning c.args.blank.now) (search_state c.args.self.now) _ c.states.ensures inside c.sum.result (c.in_ok-first.ensures (omega (arith, room, c.states.ensures))) c.sum.ensures (λ u o low is. search rules)
