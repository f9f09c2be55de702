-- What is printed.
use Rattle.std.specs.Prelude.{◌≡◌, ℕ, List, [], ◌∷◌, ◌++◌, map, Some, None, codes, Option}
use Rattle.std.specs.List.{flat_map, zip}
use Rattle.course.specs.Blanks.{Meaning}
use Rattle.planner.specs.Printed.{worked_text}
use Rattle.course.specs.Calls.{Answer, worked, set, shown, told, refused as was_refused}
use Rattle.course.specs.Machine as Machine
use Rattle.rank.specs.declared.share.ShareRank.{ShareRank}
use Rattle.rank.specs.Orders.{by_state, no_smaller_share}
use Rattle.wish.specs.Wished.{order_of, cut_off}
use Rattle.tableblank.specs.Tabled.{tabled}
use Rattle.text.specs.declared.Order.{Order}
use Rattle.text.specs.FaultText.{fault_words}
use Rattle.text.specs.Document.{verb, named}
use Rattle.text.specs.Rows.{table_rows}
use Rattle.text.specs.Verdicts.{Verdict, Says, accepted, refused}
use Rattle.session.specs.Replies.{call_of}
use Rattle.session.specs.Lived.{Lived}
pub use Rattle.text.specs.FaultText.{spaced}

-- The end of a line.
abbrev pub feed : List ℕ
feed = 10 ∷ []

-- FAULTS

-- `fault`, then layer, cause and place.
abbrev pub fault_numbers : ℕ → ℕ → ℕ → List ℕ
fault_numbers layer cause place = fault_words layer cause place ++ feed

-- ANSWERS

abbrev pub number_items : List ℕ → List ℕ
number_items = flat_map spaced

-- The standing route's cost, or `none`.
abbrev pub cost_item : Option ℕ → List ℕ
cost_item None = codes " none"
cost_item (Some c) = spaced c

-- What follows the name of an order. Work: its word and the moves that it made. Show: cost, floor and moves. Route: cost, floor and states.
abbrev pub answer_items : Answer → List ℕ
answer_items (worked word moves) = 32 ∷ worked_text word moves
answer_items set = codes " ok"
answer_items (shown cost floor moves c p q) = cost_item cost ++ (spaced floor ++ spaced moves)
answer_items (told states cost floor) = spaced cost ++ (spaced floor ++ number_items states)
answer_items (was_refused n) = codes " refused" ++ spaced n

-- The line of an order with its answer: its name, what it was answered, and the end.
abbrev pub order_line : Order → Answer → List ℕ
order_line o a = named (verb o) ++ (answer_items a ++ feed)

-- A line for each order.
abbrev pub order_lines : List Order → List Answer → List ℕ
order_lines orders answers = flat_map (λ p. order_line p.0 p.1) (zip orders answers)

-- THE WHOLE

-- The order of the wish quick: the larger share (limit − g)/h first, then the smaller state.
abbrev pub quick_order : Machine.Order
quick_order =
    order_of (λ n. record { over = cut_off n.limit n.g; under = n.h; state = n.state })
    (by_state (λ (x y : ShareRank). no_smaller_share x.over x.under y.over y.under) (λ x. x.state))

-- For orders over a blank: the lines of a life of the orders under the wish quick, where the rows for ranks and for a route have 1,024 entries.
-- (A life of given calls has only one answer to each.)
pub record PrintsOrders (m : Meaning) (orders : List Order) (out : List ℕ) : Type 0 where
  pub answers : List Answer
  pub lived : Lived m quick_order (map (call_of 1024 1024 1024) orders) answers
  pub is : out ≡ order_lines orders answers

-- What is printed for a verdict: a fault's line, or the lines of the document's orders over its table.
abbrev pub PrintedFor : Verdict → List ℕ → Type 0
PrintedFor (accepted d) out = PrintsOrders (tabled (table_rows d)) d.orders out
PrintedFor (refused layer cause place) out = out ≡ fault_numbers layer cause place

-- The bytes are what is printed for the text. (Every text has a verdict, and only one.)
abbrev pub Prints : List ℕ → List ℕ → Type 0
Prints text out = (v : Verdict) → Says text v → PrintedFor v out
