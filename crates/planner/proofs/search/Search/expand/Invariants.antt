use Rattle.std.proofs.Common.{take, drop}
use Rattle.course.specs.Machine.{Cuts}
use Rattle.course.proofs.Moves.{During}
use Rattle.planner.specs.Searches.{search_state}
use Rattle.planner.proofs.search.Search.expand.Given as goal

abbrev pub invariant-loop-place : goal.invariant-loop-place
invariant-loop-place g l =
    During (g.B.Blank.meaning l.blank) l.n l.g ((g.B.Blank.meaning l.blank).places l.n) (search_state l.initial.self)
    → Cuts (g.B.Blank.meaning l.blank) l.n l.g (take l.place ((g.B.Blank.meaning l.blank).places l.n)) (search_state l.initial.self) (search_state l.self)
    × During (g.B.Blank.meaning l.blank) l.n l.g (drop l.place ((g.B.Blank.meaning l.blank).places l.n)) (search_state l.self)
