use Rattle.std.proofs.Common.{arith, rules}
use Rattle.planner.specs.Searches.{search_state}
use Rattle.planner.proofs.Chooses.{chooses}
use Rattle.planner.proofs.search.Search.choose.Goals as goal

pub returns : goal.returns
returns g c inside room =
    let w = c.args.wish.now in
    chooses (g.B.Blank.meaning c.args.blank.now) (search_state c.args.self.now) c.args.least (g.W.Wish.ranked w) _ c.states.ensures inside
    g.W.Rank.Rank.state g.W.Rank.Rank.precedes _ (c.first_of.ensures (omega (arith, room, c.states.ensures))) (λ u o low is. search rules) (g.met.W.Wish.carries w)
