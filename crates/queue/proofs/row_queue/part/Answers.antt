use Rattle.std.proofs.Common.{sym, ap, ◌∙◌}
use Rattle.queue.proofs.Strikes.{parting_none, parting_stays, parting_goes, parting_all}
use Rattle.queue.proofs.row_queue.part.Goals as goal

pub loop-i-init : goal.loop-i-init
loop-i-init g c = parting_none _ _ _

pub loop-i-preserved-then-state-struck : goal.loop-i-preserved-then-state-struck
loop-i-preserved-then-state-struck g c =
    parting_goes _ _ _ _ _ _ _ _ c.loop-i.invariant c.loop-i-test.true c.loop-i.auto.held c.index-held-i.is
    (ap g.R.Rank.state c.index-held-i.is ∙ sym c.state.ensures ∙ c.if-state-struck.true) c.swap.ensures.permutation c.swap.ensures.by_index

pub loop-i-preserved : goal.loop-i-preserved
loop-i-preserved g c =
    parting_stays _ _ _ _ _ _ _ c.loop-i.invariant c.loop-i-test.true c.loop-i.auto.held c.index-held-i.is
    (λ e. c.if-state-struck.false (c.state.ensures ∙ ap g.R.Rank.state (sym c.index-held-i.is) ∙ e))

pub returns : goal.returns
returns g c = parting_all _ _ _ _ _ _ c.loop-i.invariant c.loop-i-test.false
