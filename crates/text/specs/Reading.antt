-- What the reader makes of every row of bytes, up to the table's checks.
use Rattle.std.specs.Prelude.{ℕ, zero, suc, ◌-◌, true, false, cond, ◌&&◌, List, [], ◌∷◌, length, Some, None, Option, nat_le, slice_index}
use Rattle.std.specs.Str.{bytes_eq}
use Rattle.text.specs.Marks.{Mark, sign, word, number, end, bad, next}
use Rattle.text.specs.Forms.{Got, got, fault, and_then, unwanted, follow, meets}
use Rattle.text.specs.Document.{Cut, Document, Verb, ratio_verb, work_verb, ceiling_verb, show_verb, route_verb, named, an_order, first_line, from, a_cut, line_end, estimates_line, opening, closing, space}
use Rattle.text.specs.declared.Order.{Order}
use Rattle.text.specs.declared.Order.TheVariants.{Ratio, Work, Ceiling, Show, Route}

-- The cut and the order that the numbers read make.
abbrev pub cut_of : List ℕ → Cut
cut_of ns = record { target = slice_index ns 0; cost = slice_index ns 1 }

abbrev pub order_of : Verb → List ℕ → Order
order_of ratio_verb ns = Ratio (slice_index ns 0) (slice_index ns 1)
order_of work_verb ns = Work (slice_index ns 0)
order_of ceiling_verb ns = Ceiling (slice_index ns 0)
order_of show_verb ns = Show
order_of route_verb ns = Route

-- The cuts of one state and the end of its line, where `room` more cuts may stand: at a closing bracket the line ends, and at any
-- other mark a cut is wanted. A cut too many is told at its opening bracket.
abbrev pub cuts_from : ℕ → ℕ → List ℕ → Got (List Cut)
cuts_from zero p bs =
    elim (meets closing (next bs)) [
      | true ↦ and_then (follow line_end p bs) (λ ns q rest. got [] q rest)
      | false ↦ and_then (follow (space ∷ opening ∷ []) p bs) (λ ns q rest. fault 2 4 (q - 1))
    ]
cuts_from (suc room) p bs =
    elim (meets closing (next bs)) [
      | true ↦ and_then (follow line_end p bs) (λ ns q rest. got [] q rest)
      | false ↦
          and_then (follow a_cut p bs) (λ ns q rest. and_then (cuts_from room q rest) (λ cs q rest. got (cut_of ns ∷ cs) q rest))
    ]

-- The lines of k states from state u on, where `room` more cuts may stand.
abbrev pub lines_from : ℕ → ℕ → ℕ → ℕ → List ℕ → Got (List (List Cut))
lines_from zero u room p bs = got [] p bs
lines_from (suc k) u room p bs =
    and_then (follow (from u) p bs)
    (λ ns q rest.
    and_then (cuts_from room q rest)
    (λ cs q rest. and_then (lines_from k (suc u) (room - length cs) q rest) (λ css q rest. got (cs ∷ css) q rest)))

-- The kind of order that a mark names.
abbrev pub verb_of : Mark → Option Verb
verb_of (sign b) = None
verb_of (word w) =
    cond (bytes_eq (named ratio_verb) w) (Some ratio_verb)
    (cond (bytes_eq (named work_verb) w) (Some work_verb)
    (cond (bytes_eq (named ceiling_verb) w) (Some ceiling_verb)
    (cond (bytes_eq (named show_verb) w) (Some show_verb)
    (cond (bytes_eq (named route_verb) w) (Some route_verb) None))))
verb_of (number n) = None
verb_of end = None
verb_of (bad c) = None

-- An order behind its opening bracket. A mark that names none is not wanted.
abbrev pub order_from : ℕ → List ℕ → Got Order
order_from p bs =
    elim (verb_of (next bs)) [ Some v ↦ and_then (follow (an_order v) p bs) (λ ns q rest. got (order_of v ns) q rest) | None ↦ unwanted (next bs) p ]

-- Orders up to the text's end, at most `turns` of them. (As many turns as bytes are left are enough.)
abbrev pub orders_from : ℕ → ℕ → List ℕ → Got (List Order)
orders_from turns p [] = got [] p []
orders_from zero p (b ∷ bs) = got [] p (b ∷ bs)
orders_from (suc turns) p (b ∷ bs) =
    and_then (follow (opening ∷ []) p (b ∷ bs))
    (λ ns q rest. and_then (order_from q rest) (λ o q rest. and_then (orders_from turns q rest) (λ os q rest. got (o ∷ os) q rest)))

-- What follows a first line that says n states, the start s and the goal g: lines, estimates and orders.
abbrev pub body : ℕ → ℕ → ℕ → ℕ → List ℕ → Got Document
body n s g p bs =
    and_then (lines_from n 0 8192 p bs)
    (λ css q rest.
    and_then (follow (estimates_line n) q rest)
    (λ hs q rest.
    and_then (orders_from (length rest) q rest)
    (λ os q rest. got (record { states = n; start = s; goal = g; cuts = css; estimates = hs; orders = os }) q rest)))

-- A text read to its end. A number of states that is not 2 to 1,024 is told as soon as the first line was read, as a fault of layer 3 with
-- cause 5.
abbrev pub document : List ℕ → Got Document
document text =
    and_then (follow first_line 0 text)
    (λ ns q rest. elim (nat_le 2 (slice_index ns 0) && nat_le (slice_index ns 0) 1024) [ true ↦ body (slice_index ns 0) (slice_index ns 1) (slice_index ns 2) q rest | false ↦ fault 3 5 0 ])

-- The same, but a text of more than 60,000 bytes is refused whatever it holds.
abbrev pub parsed : List ℕ → Got Document
parsed text = elim (nat_le (length text) 60000) [ true ↦ document text | false ↦ fault 2 4 60000 ]
