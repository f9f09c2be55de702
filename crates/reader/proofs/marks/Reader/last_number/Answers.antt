use Rattle.text.specs.Document.{line_end}
use Rattle.reader.proofs.Steps.{stopped_first, stopped_then, passes_up}
use Rattle.reader.proofs.marks.Reader.last_number.Goals as goal

pub returns-in_err-n : goal.returns-in_err-n
returns-in_err-n c =
    passes_up _ _ (stopped_first (line_end) c.in_err-n.ensures) c.from_residual.ensures.1

pub returns-in_err-line_end : goal.returns-in_err-line_end
returns-in_err-line_end c =
    passes_up _ _ (stopped_then c.in_ok-n.ensures c.in_err-line_end.ensures) c.from_residual-in_err-line_end.ensures.1
