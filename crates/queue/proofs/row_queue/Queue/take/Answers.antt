use Rattle.std.proofs.Common.{length-take-le, take, ap, ◌∙◌, sym, arith, rules}
use Rattle.queue.specs.Inside.{IsEarliest}
use Rattle.queue.proofs.Calls.{taken_out}
use Rattle.queue.proofs.row_queue.Queue.take.Goals as goal

pub returns-clause-answer : goal.returns-clause-answer
returns-clause-answer g c =
    let xs = c.args.self.now.row.now in
    let n = c.args.self.now.len in
    let first : IsEarliest g.R.Rank.precedes (take n xs) c.in_ok-best.best = search rules in
    taken_out _ _ _ xs _ n _ c.index-self-last.result (omega (arith, first.0, length-take-le n xs c.args.self.now.fits)) c.args.self.now.fits first c.swap.ensures.after c.index-self-last.is (c.state.ensures ∙ ap g.R.Rank.state (sym c.index-self-last.is))
