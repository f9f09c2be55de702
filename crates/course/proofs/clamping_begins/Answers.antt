use Rattle.course.proofs.Answered.{clamping_begins}
use Rattle.course.proofs.clamping_begins.Goals as goal

pub returns : goal.returns
returns c = clamping_begins
