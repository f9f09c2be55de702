use Rattle.std.proofs.Common.{take, length-take-le, rules}
use Rattle.std.proofs.lemmas.Iterator.{YieldsList-from_slice}
use Rattle.std.proofs.lemmas.Iterator.Consumers.{YieldsList-from_enumerate}
use Rattle.queue.proofs.Earliest.{earliest_reduced}
use Rattle.queue.proofs.row_queue.Queue.first.Goals as goal

pub returns : goal.returns
returns g c =
    let held = take c.args.self.now.len c.args.self.now.row.now in
    let long = length-take-le c.args.self.now.len c.args.self.now.row.now c.args.self.now.fits in
    let found = earliest_reduced g.R.Rank.lawful _ (λ f x y z f' q. search rules) held _ _ c.reduce.ensures.ran (YieldsList-from_enumerate (YieldsList-from_slice held (cc)) (cc)) in
    search rules
