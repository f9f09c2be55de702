use Rattle.queue.proofs.Calls.{struck_out}
use Rattle.queue.proofs.row_queue.Queue.strike.Goals as goal

pub returns-clause-answer : goal.returns-clause-answer
returns-clause-answer g c = struck_out _ _ _ _ _ _ c.args.self.now.fits c.part-self.ensures
