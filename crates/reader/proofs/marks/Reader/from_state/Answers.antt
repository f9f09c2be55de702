use Rattle.std.proofs.Common.{[], ◌∷◌, ◌++◌}
use Rattle.text.specs.Forms.{the_sign, the_number}
use Rattle.reader.proofs.Steps.{stopped_first, stopped_then, passes_up}
use Rattle.reader.proofs.marks.Reader.from_state.Goals as goal

pub returns-in_err-opening : goal.returns-in_err-opening
returns-in_err-opening c =
    passes_up _ _ (stopped_first ((the_sign 32 ∷ []) ++ (the_number c.args.u ∷ [])) c.in_err-opening.ensures) c.from_residual.ensures.1

pub returns-in_err-take : goal.returns-in_err-take
returns-in_err-take c =
    passes_up _ _ (stopped_then c.in_ok-opening.ensures (stopped_first (the_number c.args.u ∷ []) c.in_err-take.ensures.reads)) c.from_residual-in_err-take.ensures.1
