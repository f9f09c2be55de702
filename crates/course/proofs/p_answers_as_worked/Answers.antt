use Rattle.course.proofs.Worked.{worked_out}
use Rattle.course.proofs.p_answers_as_worked.Goals as goal

pub returns : goal.returns
returns c = worked_out
