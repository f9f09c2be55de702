use Rattle.std.proofs.Common.{[], ◌∷◌, ◌++◌}
use Rattle.text.specs.Forms.{the_sign, a_number}
use Rattle.reader.proofs.Steps.{stopped_first, stopped_then, passes_up}
use Rattle.reader.proofs.marks.Reader.cut.Goals as goal

pub returns-in_err-spaced_opening : goal.returns-in_err-spaced_opening
returns-in_err-spaced_opening c =
    passes_up _ _ (stopped_first ((a_number ∷ []) ++ ((the_sign 32 ∷ a_number ∷ []) ++ (the_sign 41 ∷ []))) c.in_err-spaced_opening.ensures) c.from_residual.ensures.1

pub returns-in_err-target : goal.returns-in_err-target
returns-in_err-target c =
    passes_up _ _ (stopped_then c.in_ok-spaced_opening.ensures (stopped_first ((the_sign 32 ∷ a_number ∷ []) ++ (the_sign 41 ∷ [])) c.in_err-target.ensures.reads)) c.from_residual-in_err-target.ensures.1

pub returns-in_err-cost : goal.returns-in_err-cost
returns-in_err-cost c =
    passes_up _ _ (stopped_then c.in_ok-spaced_opening.ensures (stopped_then c.in_ok-target.ensures.reads (stopped_first (the_sign 41 ∷ []) c.in_err-cost.ensures))) c.from_residual-in_err-cost.ensures.1

pub returns-in_err-take : goal.returns-in_err-take
returns-in_err-take c =
    passes_up _ _ (stopped_then c.in_ok-spaced_opening.ensures (stopped_then c.in_ok-target.ensures.reads (stopped_then c.in_ok-cost.ensures c.in_err-take.ensures.reads))) c.from_residual-in_err-take.ensures.1
