use Rattle.std.proofs.Common.{◌∷◌}
use Rattle.text.specs.Forms.{the_sign, a_number}
use Rattle.text.specs.Document.{line_end}
use Rattle.reader.proofs.Steps.{stopped_first, stopped_then, passes_up}
use Rattle.reader.proofs.marks.Reader.last_two.Goals as goal

pub returns-in_err-first : goal.returns-in_err-first
returns-in_err-first c =
    passes_up _ _ (stopped_first (the_sign 32 ∷ a_number ∷ line_end) c.in_err-first.ensures) c.from_residual.ensures.1

pub returns-in_err-second : goal.returns-in_err-second
returns-in_err-second c =
    passes_up _ _ (stopped_then c.in_ok-first.ensures c.in_err-second.ensures) c.from_residual-in_err-second.ensures.1
