use Rattle.course.proofs.Answered.{calls_answered}
use Rattle.course.proofs.calls_are_answered.Goals as goal

pub returns : goal.returns
returns c = calls_answered
