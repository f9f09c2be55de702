-- A document, and the one text that writes it.
use Rattle.std.specs.Prelude.{◌≡◌, ℕ, zero, suc, ◌+◌, ◌^◌, ◌<◌, ◌≤◌, List, [], ◌∷◌, ◌++◌, length, codes}
use Rattle.std.specs.List.{AllByRecursion}
use Rattle.text.specs.declared.Order.{Order}
use Rattle.text.specs.declared.Order.TheVariants.{Ratio, Work, Ceiling, Show, Route}
use Rattle.text.specs.Forms.{Form, Want, the_sign, the_word, the_number, a_number, filled}

-- A cut of a state leads to another state, its target, at a cost.
pub record Cut : Type 0 where
  pub target : ℕ
  pub cost : ℕ

-- What a text says: how many states there are, at which one starts and to which one goes, the cuts of each state, the estimate of each
-- state, and the orders. States go by their numbers, from 0 on; `cuts` and `estimates` have them in that order.
pub record Document : Type 0 where
  pub states : ℕ
  pub start : ℕ
  pub goal : ℕ
  pub cuts : List (List Cut)
  pub estimates : List ℕ
  pub orders : List Order

-- The signs, by their bytes: `(`, `)`, a space and a line feed.
abbrev pub opening : Want
opening = the_sign 40

abbrev pub closing : Want
closing = the_sign 41

abbrev pub space : Want
space = the_sign 32

abbrev pub feed : Want
feed = the_sign 10

-- The forms of the lines. In the comments `#` is any number; a line ends with a line feed.
-- `(last # (start #) (goal #))`: how many states, the start and the goal
abbrev pub first_line : Form
first_line =
    opening ∷ the_word (codes "last") ∷ space ∷ a_number ∷ space ∷ opening ∷ the_word (codes "start") ∷ space ∷ a_number ∷ closing
    ∷ space ∷ opening ∷ the_word (codes "goal") ∷ space ∷ a_number ∷ closing ∷ closing ∷ feed ∷ []

-- The line of state u: `(from u`, then ` (# #)` for each cut, its target and its cost, then `)`
abbrev pub from : ℕ → Form
from u = opening ∷ the_word (codes "from") ∷ space ∷ the_number u ∷ []

abbrev pub a_cut : Form
a_cut = space ∷ opening ∷ a_number ∷ space ∷ a_number ∷ closing ∷ []

abbrev pub line_end : Form
line_end = closing ∷ feed ∷ []

-- ` #` n times, then `)` and the line feed
abbrev pub spaced_numbers : ℕ → Form
spaced_numbers zero = line_end
spaced_numbers (suc n) = space ∷ a_number ∷ spaced_numbers n

-- `(estimates`, then ` #` for each of n states, then `)`
abbrev pub estimates_line : ℕ → Form
estimates_line n = opening ∷ the_word (codes "estimates") ∷ spaced_numbers n

-- The five kinds of order, each with its word and how many numbers it takes: `(ratio # #)`, `(work #)`, `(ceiling #)`, `(show)`, `(route)`
pub data Verb : Type 0 where
  ratio_verb work_verb ceiling_verb show_verb route_verb : Verb

abbrev pub named : Verb → List ℕ
named ratio_verb = codes "ratio"
named work_verb = codes "work"
named ceiling_verb = codes "ceiling"
named show_verb = codes "show"
named route_verb = codes "route"

abbrev pub how_many : Verb → ℕ
how_many ratio_verb = 2
how_many work_verb = 1
how_many ceiling_verb = 1
how_many show_verb = 0
how_many route_verb = 0

-- An order's line behind its opening bracket.
abbrev pub an_order : Verb → Form
an_order v = the_word (named v) ∷ spaced_numbers (how_many v)

-- The kind and the numbers of an order.
abbrev pub verb : Order → Verb
verb (Ratio p q) = ratio_verb
verb (Work b) = work_verb
verb (Ceiling c) = ceiling_verb
verb Show = show_verb
verb Route = route_verb

abbrev pub numbers : Order → List ℕ
numbers (Ratio p q) = p ∷ q ∷ []
numbers (Work b) = b ∷ []
numbers (Ceiling c) = c ∷ []
numbers Show = []
numbers Route = []

-- The text of a state's cuts with the end of their line.
abbrev pub cuts_text : List Cut → List ℕ
cuts_text [] = filled line_end []
cuts_text (c ∷ cs) = filled a_cut (c.target ∷ c.cost ∷ []) ++ cuts_text cs

-- The text of the lines of the states from u on, where each has the cuts of the next list.
abbrev pub lines_text : ℕ → List (List Cut) → List ℕ
lines_text u [] = []
lines_text u (cs ∷ css) = (filled (from u) [] ++ cuts_text cs) ++ lines_text (suc u) css

-- The text of the orders.
abbrev pub orders_text : List Order → List ℕ
orders_text [] = []
orders_text (o ∷ os) = (filled (opening ∷ []) [] ++ filled (an_order (verb o)) (numbers o)) ++ orders_text os

-- The text of a document: the first line, a line for each state, the estimates, and a line for each order.
abbrev pub written : Document → List ℕ
written d =
    filled first_line (d.states ∷ d.start ∷ d.goal ∷ [])
    ++ (lines_text 0 d.cuts ++ (filled (estimates_line d.states) d.estimates ++ orders_text d.orders))

-- A number of at most seven digits.
abbrev pub Short : ℕ → Type 0
Short n = n < 10 ^ 7

-- A cut whose two numbers are short.
abbrev pub ShortCut : Cut → Type 0
ShortCut c = Short c.target × Short c.cost

-- How many cuts the states have together.
abbrev pub total : List (List Cut) → ℕ
total [] = 0
total (cs ∷ css) = length cs + total css

-- A document within every limit but that on the length of its text: cuts and an estimate for each state, 2 to 1,024 states, at most 8,192
-- cuts, and short numbers.
pub record WellFormed (d : Document) : Type 0 where
  pub enough : 2 ≤ d.states
  pub few : d.states ≤ 1024
  pub start_short : Short d.start
  pub goal_short : Short d.goal
  pub lines : length d.cuts ≡ d.states
  pub cuts_few : total d.cuts ≤ 8192
  pub cuts_short : AllByRecursion (AllByRecursion ShortCut) d.cuts
  pub estimates_all : length d.estimates ≡ d.states
  pub estimates_short : AllByRecursion Short d.estimates
  pub orders_short : AllByRecursion (λ o. AllByRecursion Short (numbers o)) d.orders

-- The same without the limits on how many states and cuts there are.
pub record Shaped (d : Document) : Type 0 where
  pub states_short : Short d.states
  pub start_short : Short d.start
  pub goal_short : Short d.goal
  pub lines : length d.cuts ≡ d.states
  pub cuts_short : AllByRecursion (AllByRecursion ShortCut) d.cuts
  pub estimates_all : length d.estimates ≡ d.states
  pub estimates_short : AllByRecursion Short d.estimates
  pub orders_short : AllByRecursion (λ o. AllByRecursion Short (numbers o)) d.orders
