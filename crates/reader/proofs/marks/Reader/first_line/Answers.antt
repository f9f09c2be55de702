use Rattle.std.proofs.Common.{[], ◌∷◌, ◌++◌, codes}
use Rattle.text.specs.Forms.{the_sign, a_number}
use Rattle.reader.specs.Readings.{named_number}
use Rattle.text.specs.Document.{line_end}
use Rattle.reader.proofs.Steps.{went_then, stopped_first, stopped_then, passes_up}
use Rattle.reader.proofs.marks.Reader.first_line.Goals as goal

pub returns-in_err-opening : goal.returns-in_err-opening
returns-in_err-opening c =
    passes_up _ _ (stopped_first ((the_sign 32 ∷ a_number ∷ []) ++ ((named_number (codes "start")) ++ ((named_number (codes "goal")) ++ (line_end)))) c.in_err-opening.ensures) c.from_residual.ensures.1

pub returns-in_err-states : goal.returns-in_err-states
returns-in_err-states c =
    passes_up _ _ (stopped_then c.in_ok-opening.ensures (stopped_first ((named_number (codes "start")) ++ ((named_number (codes "goal")) ++ (line_end))) c.in_err-states.ensures)) c.from_residual-in_err-states.ensures.1

pub returns-in_err-start : goal.returns-in_err-start
returns-in_err-start c =
    passes_up _ _ (stopped_then c.in_ok-opening.ensures (stopped_then c.in_ok-states.ensures (stopped_first ((named_number (codes "goal")) ++ (line_end)) c.in_err-start.ensures))) c.from_residual-in_err-start.ensures.1

pub returns-in_err-goal : goal.returns-in_err-goal
returns-in_err-goal c =
    passes_up _ _ (stopped_then c.in_ok-opening.ensures (stopped_then c.in_ok-states.ensures (stopped_then c.in_ok-start.ensures (stopped_first (line_end) c.in_err-goal.ensures)))) c.from_residual-in_err-goal.ensures.1

pub returns-in_err-line_end : goal.returns-in_err-line_end
returns-in_err-line_end c =
    passes_up _ _ (stopped_then c.in_ok-opening.ensures (stopped_then c.in_ok-states.ensures (stopped_then c.in_ok-start.ensures (stopped_then c.in_ok-goal.ensures c.in_err-line_end.ensures)))) c.from_residual-in_err-line_end.ensures.1

pub returns : goal.returns
returns c = went_then c.in_ok-opening.ensures (went_then c.in_ok-states.ensures (went_then c.in_ok-start.ensures (went_then c.in_ok-goal.ensures c.in_ok-line_end.ensures)))
