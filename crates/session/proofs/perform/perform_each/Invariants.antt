use Rattle.std.proofs.Common.{◌≡◌, map, length, take, vec_items}
use Rattle.course.specs.Calls.{Life}
use Rattle.wish.specs.Wished.{order_of}
use Rattle.planner.specs.Lasts.{state_of}
use Rattle.planner.specs.Lives.{AfterLives}
use Rattle.std.specs.List.{AllByRecursion}
use Rattle.session.specs.Replies.{call_of, answer_of, all_written, NoWork}
use Rattle.session.specs.Lived.{newest_first}
use Rattle.session.proofs.perform.perform_each.Given as goal

abbrev pub invariant-loop-order : goal.invariant-loop-order
invariant-loop-order g l =
    (l.last.blank ≡ l.initial.last.blank)
    × (l.last.wish ≡ l.initial.last.wish)
    × (length (vec_items l.replies) ≡ l.order-index)
    × (AfterLives (g.B.Blank.meaning l.initial.last.blank) (order_of (g.W.Wish.ranked l.initial.last.wish) g.W.Rank.Rank.precedes) (state_of l.initial.last)
    (λ cs. Life (g.B.Blank.meaning l.initial.last.blank) (order_of (g.W.Wish.ranked l.initial.last.wish) g.W.Rank.Rank.precedes)
    (newest_first (map (call_of (length l.initial.costs) (length l.initial.wishes) (length l.initial.row)) (take l.order-index l.orders)) (map answer_of (vec_items l.replies)) cs)
    (state_of l.last)))
    × (l.row ≡ all_written (map answer_of (vec_items l.replies)) l.initial.row)
    × (AllByRecursion NoWork (map answer_of (vec_items l.replies)) → (l.costs ≡ l.initial.costs) × (l.wishes ≡ l.initial.wishes))
