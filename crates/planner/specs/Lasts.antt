-- What a clamped last holds, as a state of the machine.
use Rattle.blank.specs.declared.blank_trait.Blank.{Ghosts as BlankGhosts}
use Rattle.wish.specs.declared.wish_trait.Wish.{Ghosts as WishGhosts}
use Rattle.rank.specs.declared.rank_trait.Rank.{Ghosts as RankGhosts}
use Rattle.course.specs.Machine.{State}
use Rattle.planner.specs.declared.last.Last.{Last}
use Rattle.planner.specs.Searches.{search_state}

-- The state of the machine that a last is in. (What its blank, its wish and the wish's ranks mean is a part of its type.)
abbrev pub state_of : {B W R : Type 0} {blank : BlankGhosts B} {wish : WishGhosts W R} {rank : RankGhosts R} → Last B W R blank wish rank → State
state_of l = search_state l.search
