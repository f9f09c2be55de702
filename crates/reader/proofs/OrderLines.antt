-- The orders, read one after another.
use Rattle.std.proofs.Common.{◌≡◌, ℕ, zero, suc, ◌+◌, ◌-◌, ◌<◌, ◌≤◌, Bool, true, false, cond, ◌⊎◌, List, [], ◌∷◌, ◌++◌, length, Some, None, Ok, Err, Option, Result, sym, refl, ap, ◌∙◌, inl, inr, arith}
use Rattle.std.specs.Str.{bytes_eq}
use Rattle.std.proofs.lemmas.List.{append-nil, length-append, length-drop, drop_all}
use Rattle.text.specs.declared.Fault.{Fault}
use Rattle.text.specs.declared.Order.{Order}
use Rattle.text.specs.Marks.{Mark, sign, word, number, end, bad, next, width}
use Rattle.text.specs.Forms.{filled, Got, got, fault, and_then, meets, follow, the_word}
use Rattle.text.specs.Document.{Verb, ratio_verb, work_verb, ceiling_verb, show_verb, route_verb, named, how_many, verb, numbers, spaced_numbers, an_order, opening}
use Rattle.text.specs.Reading.{order_of, verb_of, order_from, orders_from}
use Rattle.text.proofs.Forms.{apart, went, goes, follow_sound}
use Rattle.text.proofs.Orders.{order_by, order_again, order_sound}
use Rattle.reader.specs.declared.marks.Reader.{Reader}
use Rattle.reader.specs.Readings.{Went, Reads, rest, told}
use Rattle.reader.specs.Orders.{Named, Came, OrderTold, order_line_from, all_orders}
use Rattle.reader.proofs.Wants.{met_one}
use Rattle.reader.proofs.Steps.{reads_then}
use Rattle.reader.proofs.CutLines.{onto, onto_none, onto_more}

-- The first word that is met.
picked : (w : List ℕ) (a v : Verb) (others : Option Verb) → cond (bytes_eq (named a) w) (Some a) others ≡ Some v → (bytes_eq (named v) w ≡ true) ⊎ (others ≡ Some v)
picked w a v others e = go (bytes_eq (named a) w) refl e
  where
    go : (t : Bool) → bytes_eq (named a) w ≡ t → cond t (Some a) others ≡ Some v → (bytes_eq (named v) w ≡ true) ⊎ (others ≡ Some v)
    go true h e = let same : a ≡ v = cc in inl (ap (λ x. bytes_eq (named x) w) (sym same) ∙ h)
    go false h e = inr e

no_verb : {A : Type 0} (v : Verb) → None ≡ Some v → A
no_verb v e = let z : ◌≡◌ {A = ℕ} 0 1 = cc in apart z

-- A mark that names an order is its word.
verb_met : (m : Mark) (v : Verb) → verb_of m ≡ Some v → meets (the_word (named v)) m ≡ true
verb_met (sign b) v e = no_verb v e
verb_met (word w) v e =
    elim (picked w ratio_verb v _ e) [
      | inl h ↦ h
      | inr e ↦
          elim (picked w work_verb v _ e) [
            | inl h ↦ h
            | inr e ↦
                elim (picked w ceiling_verb v _ e) [
                  | inl h ↦ h
                  | inr e ↦
                      elim (picked w show_verb v _ e) [ inl h ↦ h | inr e ↦ elim (picked w route_verb v _ e) [ inl h ↦ h | inr e ↦ no_verb v e ] ]
                ]
          ]
    ]
verb_met (number n) v e = no_verb v e
verb_met end v e = no_verb v e
verb_met (bad c) v e = no_verb v e

again : (v : Verb) (o : Order) → verb o ≡ v → order_of v (numbers o) ≡ o
again v o e = ap (λ x. order_of x (numbers o)) (sym e) ∙ order_again o

-- An order is its word and its numbers.
pub order_taken :
    (v : Verb) (from to : Reader) (stop : ℕ) (m : Mark) (r : Result Order Fault)
    → m ≡ next (rest from) → stop ≡ from.at + width (rest from) → verb_of m ≡ Some v
    → Reads (spaced_numbers (how_many v)) numbers (record { text = from.text; at = stop }) to r → Named v r → OrderTold from to r
order_taken v from to stop m r e l s h n = go r (reads_then (spaced_numbers (how_many v)) numbers to r first h) n
  where
    first : Went (the_word (named v) ∷ []) [] from (record { text = from.text; at = stop })
    first = record { same = refl; tells = met_one (the_word (named v)) from.text.now from.at stop m e l (verb_met m v s) }

    this : order_from from.at (rest from) ≡ and_then (follow (an_order v) from.at (rest from)) (λ ns q left. got (order_of v ns) q left)
    this = ap (λ x. order_by x from.at (rest from)) (ap verb_of (sym e) ∙ s)

    go : (r : Result Order Fault) → Reads (an_order v) numbers from to r → Named v r → OrderTold from to r
    go (Ok o) w n =
        record {
          same = w.same;
          is =
              this
              ∙ ap (λ g. and_then g (λ ns q left. got (order_of v ns) q left)) w.tells
              ∙ ap (λ z. got z to.at (rest to)) (again v o n);
        }
    go (Err f) w n = this ∙ ap (λ g. and_then g (λ ns q left. got (order_of v ns) q left)) w.tells

-- The orders so far, and what is left.
pub record SofarOrders (from mid : Reader) (done : List Order) : Type 0 where
  pub same : mid.text.now ≡ from.text.now
  pub turns : ℕ
  pub enough : length (rest mid) ≤ turns
  pub left : all_orders from ≡ and_then (orders_from turns mid.at (rest mid)) (onto done)

pub orders_start : (from : Reader) → SofarOrders from from []
orders_start from = record { same = refl; turns = length (rest from); enough = omega arith; left = onto_none (all_orders from) }

-- Where something is left, an order is wanted.
orders_go :
    (turns p : ℕ) (bs : List ℕ) → 0 < length bs → orders_from (suc turns) p bs ≡ and_then (order_line_from p bs) (λ o q left. and_then (orders_from turns q left) (λ os q left. got (o ∷ os) q left))
orders_go turns p [] h = absurd (omega arith)
orders_go turns p (b ∷ bs) h = go (follow (opening ∷ []) p (b ∷ bs))
  where
    more : Order → ℕ → List ℕ → Got (List Order)
    more o q left = and_then (orders_from turns q left) (λ os q left. got (o ∷ os) q left)

    go : (r : Got (List ℕ)) → and_then r (λ ns q left. and_then (order_from q left) more) ≡ and_then (and_then r (λ ns q left. order_from q left)) more
    go (got ns q left) = refl
    go (fault l c q) = refl

-- A line of an order takes some bytes.
pub line_takes : {from to : Reader} {o : Order} → Came (order_line_from from.at (rest from)) o from to → length (rest to) < length (rest from)
line_takes {from} {to} {o} h =
    let w = went (follow (opening ∷ []) from.at (rest from)) (λ ns q left. order_from q left) o to.at (rest to) h.is in
    let f = follow_sound (opening ∷ []) from.at (rest from) w.thing w.place w.left w.first in
    let t = order_sound w.place w.left o to.at (rest to) w.second in
    omega (arith, ap length f.took.splits, ap length t.took.splits, length-append (filled (an_order (verb o)) (numbers o)) (rest to))

some_left : (r : Reader) → r.at < length r.text.now → 0 < length (rest r)
some_left r h = omega (arith, length-drop r.at r.text.now)

pub orders_more :
    {from mid to : Reader} {done : List Order} (o : Order)
    → SofarOrders from mid done → mid.at < length mid.text.now → Came (order_line_from mid.at (rest mid)) o mid to → SofarOrders from to (done ++ o ∷ [])
orders_more {from} {mid} {to} {done} o s h c =
    let some = some_left mid h in
    let k : ℕ = s.turns - 1 in
    let one_more : s.turns ≡ suc k = omega (arith, s.enough) in
    record {
      same = c.same ∙ s.same;
      turns = k;
      enough = omega (arith, s.enough, line_takes c);
      left =
          s.left
          ∙ ap (λ g. and_then g (onto done))
          (ap (λ n. orders_from n mid.at (rest mid)) one_more ∙ orders_go k mid.at (rest mid) some
          ∙ goes (order_line_from mid.at (rest mid)) (λ o q left. and_then (orders_from k q left) (λ os q left. got (o ∷ os) q left)) o to.at (rest to)
          (and_then (orders_from k to.at (rest to)) (λ os q left. got (o ∷ os) q left))
          c.is
          refl)
          ∙ onto_more done o (orders_from k to.at (rest to));
    }

pub orders_fault :
    {from mid : Reader} {done : List Order} (e : Fault)
    → SofarOrders from mid done → mid.at < length mid.text.now → order_line_from mid.at (rest mid) ≡ told e → all_orders from ≡ told e
orders_fault {from} {mid} {done} e s h f =
    let some = some_left mid h in
    let k : ℕ = s.turns - 1 in
    let one_more : s.turns ≡ suc k = omega (arith, s.enough) in
    s.left
    ∙ ap (λ g. and_then g (onto done))
    (ap (λ n. orders_from n mid.at (rest mid)) one_more ∙ orders_go k mid.at (rest mid) some
    ∙ ap (λ g. and_then g (λ o q left. and_then (orders_from k q left) (λ os q left. got (o ∷ os) q left))) f)

none_left : (turns p : ℕ) (bs : List ℕ) → bs ≡ [] → orders_from turns p bs ≡ got [] p bs
none_left zero p [] e = refl
none_left (suc turns) p [] e = refl
none_left turns p (b ∷ bs) e = let z : length (b ∷ bs) ≡ 0 = ap length e in absurd (omega arith)

pub orders_end : {from mid : Reader} {done : List Order} → SofarOrders from mid done → length mid.text.now ≤ mid.at → Came (all_orders from) done from mid
orders_end {from} {mid} {done} s h =
    record {
      same = s.same;
      is =
          s.left
          ∙ ap (λ g. and_then g (onto done)) (none_left s.turns mid.at (rest mid) (drop_all mid.at mid.text.now h))
          ∙ ap (λ z. got z mid.at (rest mid)) (append-nil done);
    }
