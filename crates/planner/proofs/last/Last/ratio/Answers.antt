use Rattle.std.proofs.Common.{ℕ, subst₂}
use Rattle.std.proofs.lemmas.Result.{err_from_is_err_and}
use Rattle.course.specs.Machine.{with_ratio}
use Rattle.course.specs.Calls.{Does, ratio, set, agrees, no_ratio}
use Rattle.wish.specs.Wished.{order_of}
use Rattle.planner.specs.Lasts.{state_of}
use Rattle.planner.proofs.Lived.{led_by}
use Rattle.planner.proofs.last.Last.ratio.Goals as goal

pub invariant_of-self : goal.invariant_of-self
invariant_of-self g c = ((c.args.self.now.search.low, tt), (led_by (agrees c.in_ok-self.field-0.allowed) c.args.self.now.lived, tt))

pub returns-in_err-self-clause-answer : goal.returns-in_err-self-clause-answer
returns-in_err-self-clause-answer g c =
    let p = err_from_is_err_and c.from_residual.result c.from_residual.ensures.1 in
    rw (p.1, p.2, c.in_err-self.ensures.0) (no_ratio c.in_err-self.ensures.1)

pub returns-clause-answer : goal.returns-clause-answer
returns-clause-answer g c =
    let m = g.B.Blank.meaning c.args.self.now.blank in
    let ord = order_of (g.W.Wish.ranked c.args.self.now.wish) g.W.Rank.Rank.precedes in
    let s = state_of c.args.self.now in
    let r = c.in_ok-self.field-0 in
    subst₂ (λ (x y : ℕ). Does m ord s (ratio x y) set (with_ratio s r.p r.q)) c.in_ok-self.ensures.0 c.in_ok-self.ensures.1 (agrees r.allowed)
