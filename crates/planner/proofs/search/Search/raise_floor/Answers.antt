use Rattle.planner.proofs.search.Search.raise_floor.Goals as goal

pub returns : goal.returns
returns g c inside = c.raise_to.ensures _ (c.least-least.ensures inside)
