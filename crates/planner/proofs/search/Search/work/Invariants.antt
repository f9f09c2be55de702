use Rattle.std.proofs.Common.{List, ◌≤◌, length}
use Rattle.course.specs.Calls.{Call, Answer, Life}
use Rattle.wish.specs.Wished.{order_of}
use Rattle.planner.specs.Searches.{search_state}
use Rattle.planner.specs.Scans.{FoundLeast}
use Rattle.planner.proofs.Working.{Working}
use Rattle.planner.proofs.search.Search.work.Given as goal

abbrev pub invariant-loop-moves : goal.invariant-loop-moves
invariant-loop-moves g l =
    (cs : List (Call × Answer)) → Life (g.B.Blank.meaning l.blank) (order_of (g.W.Wish.ranked l.wish) g.W.Rank.Rank.precedes) cs (search_state l.initial.self)
    → (g.B.Blank.meaning l.blank).states ≤ length l.initial.costs
    → (g.B.Blank.meaning l.blank).states ≤ length l.initial.wishes
    → Working (g.B.Blank.meaning l.blank) (order_of (g.W.Wish.ranked l.wish) g.W.Rank.Rank.precedes) (search_state l.initial.self) l.moves (search_state l.self)
    × FoundLeast (g.B.Blank.meaning l.blank) (search_state l.self) l.least
