use Rattle.planner.proofs.search.Search.focal.Goals as goal

pub returns-in_err-g : goal.returns-in_err-g
returns-in_err-g g c = rw c.from_residual.ensures (λ k focal. c.in_err-g.ensures k focal.live)
