use Rattle.std.proofs.Common.{◌≡◌, ℕ, ◌+◌, ◌*◌, ◌≤◌, length, take, vec_items}
use Rattle.std.specs.Slice.Iter.{windows_rest, windows_size}
use Rattle.planner.proofs.Adds.{Adding}
use Rattle.course.specs.Blanks.{Walk}
use Rattle.planner.proofs.search.Search.path_cost.Given as goal

abbrev pub invariant-loop-pair : goal.invariant-loop-pair
invariant-loop-pair g l =
    (goal.iterator-loop-pair g).can_next l.pair-iterator
    × (goal.iterator-loop-pair g).is_finite l.pair-iterator
    × (windows_size l.pair-iterator ≡ 2)
    × (l.cost + 1000 * length (windows_rest l.pair-iterator) ≤ 1024000)
    × ((s w e : ℕ) → Walk (g.B.Blank.meaning l.blank) s w (take l.len (vec_items l.self.bench.path)) e → Adding (g.B.Blank.meaning l.blank) (windows_rest l.pair-iterator) w l.cost e)
