-- Orders as calls of a last, replies as their answers, and what these leave in the rows.
use Rattle.std.specs.Prelude.{ℕ, List, [], ◌∷◌, ◌++◌, length, drop, vec_items, ◌≢◌}
use Rattle.text.specs.declared.Order.{Order}
use Rattle.text.specs.declared.Order.TheVariants.{Ratio, Work, Ceiling, Show, Route}
use Rattle.course.specs.Refusals.{number_of}
use Rattle.course.specs.declared.machine.Word.{Word}
use Rattle.course.specs.Calls.{Call, work, ratio, ceiling, show, route, Answer, worked, set, shown, told, refused}
use Rattle.session.specs.declared.reply.Reply.{Reply}
use Rattle.session.specs.declared.reply.Reply.TheVariants.{Worked, Set, Shown, Told, Refused}

-- The call that an order asks for, where the rows for cost ranks, for the wish's ranks and for a route have these lengths.
abbrev pub call_of : ℕ → ℕ → ℕ → Order → Call
call_of costs wishes row (Ratio p q) = ratio p q
call_of costs wishes row (Work budget) = work budget costs wishes
call_of costs wishes row (Ceiling c) = ceiling c
call_of costs wishes row Show = show
call_of costs wishes row Route = route row

-- The answer that a reply gives.
abbrev pub answer_of : Reply → Answer
answer_of (Worked w) = worked w.word w.moves
answer_of Set = set
answer_of (Shown s) = shown s.cost s.floor s.moves s.ceiling s.p s.q
answer_of (Told r) = told (vec_items r.states) r.cost r.floor
answer_of (Refused e) = refused (number_of e)

-- THE ROWS

-- The row for routes after an answer: the states of a route that was told stand at its front, and the entries behind them are as they were. Any
-- other answer leaves the row.
abbrev pub written : Answer → List ℕ → List ℕ
written (worked word moves) row = row
written set row = row
written (shown cost floor moves c p q) row = row
written (told states cost floor) row = states ++ drop (length states) row
written (refused n) row = row

-- The same after several answers, one after the other.
abbrev pub all_written : List Answer → List ℕ → List ℕ
all_written [] row = row
all_written (a ∷ answers) row = all_written answers (written a row)

-- The answer is not that of an accepted work, so that the rows for ranks are as they were.
abbrev pub NoWork : Answer → Type 0
NoWork a = (word : Word) (moves : ℕ) → a ≢ worked word moves
