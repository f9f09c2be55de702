use Rattle.std.proofs.Common.{inl, inr, arith}
use Rattle.course.specs.Calls.{short_row, over_budget}
use Rattle.planner.proofs.last.Last.work.Goals as goal

pub returns-then-costs-states-clause-answer : goal.returns-then-costs-states-clause-answer
returns-then-costs-states-clause-answer g c = short_row (elim c.then-costs-states.either [ inl a ↦ inl (omega (arith, c.states-states.ensures)) | inr b ↦ inr (omega (arith, c.states-states.ensures)) ])

pub returns-then-budget-gt-MOST_MOVES-clause-answer : goal.returns-then-budget-gt-MOST_MOVES-clause-answer
returns-then-budget-gt-MOST_MOVES-clause-answer g c = over_budget (omega (arith, c.states-states.ensures)) (omega (arith, c.states-states.ensures)) (omega arith)
