use Rattle.std.proofs.Common.{[], ◌∷◌, ◌++◌}
use Rattle.text.specs.Forms.{the_sign, a_number}
use Rattle.reader.proofs.Steps.{stopped_first, stopped_then, passes_up}
use Rattle.reader.proofs.marks.Reader.named_number.Goals as goal

pub returns-in_err-opening : goal.returns-in_err-opening
returns-in_err-opening c =
    passes_up _ _ (stopped_then c.in_ok-take.ensures.reads (stopped_first ((the_sign 32 ∷ a_number ∷ []) ++ (the_sign 41 ∷ [])) c.in_err-opening.ensures)) c.from_residual-in_err-opening.ensures.1

pub returns-in_err-n : goal.returns-in_err-n
returns-in_err-n c =
    passes_up _ _ (stopped_then c.in_ok-take.ensures.reads (stopped_then c.in_ok-opening.ensures (stopped_first (the_sign 41 ∷ []) c.in_err-n.ensures))) c.from_residual-in_err-n.ensures.1
