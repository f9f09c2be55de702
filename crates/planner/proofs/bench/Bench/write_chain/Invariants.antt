use Rattle.std.proofs.Common.{◌≡◌, ℕ, ◌≤◌, List, length, vec_items}
use Rattle.course.specs.Machine.{Chain}
use Rattle.planner.specs.Searches.{marks_of}
use Rattle.planner.proofs.Traces.{Writing}
use Rattle.planner.proofs.bench.Bench.write_chain.Given as goal

abbrev pub invariant-loop-i : goal.invariant-loop-i
invariant-loop-i l =
    (l.self.marks ≡ l.initial.self.marks)
    × (l.i ≤ l.len)
    × ((path : List ℕ) → Chain (marks_of (vec_items l.initial.self.marks)) l.n path → length path ≡ l.len → l.len ≤ 1024 → Writing (marks_of (vec_items l.initial.self.marks)) l.at l.i l.len (vec_items l.self.path) path)

abbrev pub decreases-loop-i : goal.decreases-loop-i
decreases-loop-i l = l.i
