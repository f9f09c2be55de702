-- Each call has one cut less left.
use Rattle.routes.proofs.count.+follow.Given as goal

abbrev pub decreases-follow : goal.decreases-follow
decreases-follow l = l.left
