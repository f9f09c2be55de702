-- The orders that the reader takes.
use Rattle.std.specs.Prelude.{◌≡◌, ℕ, List, [], ◌∷◌, length, Ok, Err, vec_items, Result, Vec}
use Rattle.std.specs.declared.alloc.Global.{Global}
use Rattle.text.specs.declared.Fault.{Fault}
use Rattle.text.specs.declared.Order.{Order}
use Rattle.text.specs.Forms.{Got, got, and_then, follow}
use Rattle.text.specs.Document as rules
use Rattle.text.specs.Document.{ratio_verb, work_verb, ceiling_verb, show_verb, route_verb, verb, opening}
use Rattle.text.specs.Reading.{order_from, orders_from}
use Rattle.reader.specs.declared.errors.ReadError.{ReadError}
use Rattle.reader.specs.declared.marks.Reader.{Reader}
use Rattle.reader.specs.declared.orders.Verb.{Verb}
use Rattle.reader.specs.declared.orders.Verb.TheVariants.{Ratio, Work, Ceiling, Show, Route}
use Rattle.reader.specs.Readings.{rest, told}
use Rattle.reader.specs.Rows.{Outcome}

-- The verb of the rules.
abbrev pub spoken : Verb → rules.Verb
spoken Ratio = ratio_verb
spoken Work = work_verb
spoken Ceiling = ceiling_verb
spoken Show = show_verb
spoken Route = route_verb

-- An order that was taken is of this verb.
abbrev pub Named : rules.Verb → Result Order Fault → Type 0
Named v (Ok o) = verb o ≡ v
Named v (Err f) = Unit {0}

-- What the rules make of the text came to b, and the reader stands behind it.
pub record Came {B : Type 0} (g : Got B) (b : B) (from to : Reader) : Type 0 where
  pub same : to.text.now ≡ from.text.now
  pub is : g ≡ got b to.at (rest to)

-- What the rules make of the text is what the code answers.
abbrev pub Comes : {B : Type 0} → Got B → Reader → Reader → Result B Fault → Type 0
Comes g from to (Ok b) = Came g b from to
Comes g from to (Err f) = g ≡ told f

abbrev pub OrderTold : Reader → Reader → Result Order Fault → Type 0
OrderTold from to r = Comes (order_from from.at (rest from)) from to r

-- The line of an order.
abbrev pub order_line_from : ℕ → List ℕ → Got Order
order_line_from p bs = and_then (follow (opening ∷ []) p bs) (λ ns q left. order_from q left)

abbrev pub OrderLineTold : Reader → Reader → Result Order Fault → Type 0
OrderLineTold from to r = Comes (order_line_from from.at (rest from)) from to r

-- The orders up to the end of the text. There are no more of them than bytes.
abbrev pub all_orders : Reader → Got (List Order)
all_orders from = orders_from (length (rest from)) from.at (rest from)

abbrev pub OrdersTold : Reader → Reader → Result (Vec Order Global) ReadError → Type 0
OrdersTold from to r = Outcome (λ os. Came (all_orders from) (vec_items os) from to) (λ f. all_orders from ≡ told f) r
