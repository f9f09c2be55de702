use Rattle.course.proofs.Answers.{answers_true}
use Rattle.course.proofs.answers_are_true.Goals as goal

pub returns : goal.returns
returns c = answers_true
