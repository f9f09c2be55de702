-- The estimates and the orders, read and written.
use Rattle.std.proofs.Common.{◌≡◌, ℕ, zero, suc, ◌+◌, ◌<◌, ◌≤◌, List, [], ◌∷◌, ◌++◌, length, Some, None, Option, sym, refl, ap, ◌∙◌, subst, arith}
use Rattle.std.specs.List.{AllByRecursion}
use Rattle.std.proofs.lemmas.List.{append_assoc, length-append}
use Rattle.text.specs.Marks.{word, next, is_digit, is_letter}
use Rattle.text.specs.Forms.{filled, Got, got, and_then, unwanted, follow}
use Rattle.text.specs.Document.{Verb, ratio_verb, work_verb, ceiling_verb, show_verb, route_verb, named, how_many, an_order, verb, numbers, spaced_numbers, orders_text, opening, Short}
use Rattle.text.specs.declared.Order.{Order}
use Rattle.text.specs.declared.Order.TheVariants.{Ratio, Work, Ceiling, Show, Route}
use Rattle.text.specs.Reading.{order_of, verb_of, order_from, orders_from}
use Rattle.text.proofs.Runs.{Stops, Every}
use Rattle.text.proofs.Marks.{shows_word}
use Rattle.text.proofs.Forms.{went, goes, never_got, Took, took_both, Fits, follow_sound, Spaced}
use Rattle.text.proofs.Cuts.{follow_to}

-- The numbers of such a line are as many as it wants, and short.
pub spaced_fits : (n : ℕ) (hs : List ℕ) → Fits (spaced_numbers n) hs → (length hs ≡ n) × AllByRecursion Short hs
spaced_fits zero hs h = rw h (refl, tt)
spaced_fits (suc n) [] h = elim h [ ]
spaced_fits (suc n) (x ∷ hs) h = let t = spaced_fits n hs h.1 in (ap suc t.0, (h.0, t.1))

pub fits_spaced : (hs : List ℕ) → AllByRecursion Short hs → Fits (spaced_numbers (length hs)) hs
fits_spaced [] s = refl
fits_spaced (x ∷ hs) s = (s.0, fits_spaced hs s.1)

pub spaced_stops : (n : ℕ) (ns rest : List ℕ) → Stops is_digit (filled (spaced_numbers n) ns ++ rest) × Stops is_letter (filled (spaced_numbers n) ns ++ rest)
spaced_stops zero ns rest = (refl, refl)
spaced_stops (suc n) ns rest = (refl, refl)

pub spaced_spaced : (n : ℕ) (rest : List ℕ) → Spaced (spaced_numbers n) rest
spaced_spaced zero rest = (refl, (refl, tt))
spaced_spaced (suc n) rest = (refl, ((λ ns. (spaced_stops n ns rest).0), spaced_spaced n rest))

-- An order's numbers are those that were read.
pub record SameOrder (v : Verb) (ns : List ℕ) : Type 0 where
  pub same_verb : verb (order_of v ns) ≡ v
  pub same_numbers : numbers (order_of v ns) ≡ ns
  pub short : AllByRecursion Short (numbers (order_of v ns))

pub same_order : (v : Verb) (ns : List ℕ) → Fits (an_order v) ns → SameOrder v ns
same_order ratio_verb [] h = elim h [ ]
same_order ratio_verb (a ∷ []) h = elim h.1 [ ]
same_order ratio_verb (a ∷ b ∷ []) h = record { same_verb = refl; same_numbers = refl; short = (h.0, (h.1.0, tt)) }
same_order ratio_verb (a ∷ b ∷ c ∷ ns) h = let e = h.1.1 in let z : ◌≡◌ {A = ℕ} 0 1 = cc in absurd (omega arith)
same_order work_verb [] h = elim h [ ]
same_order work_verb (a ∷ []) h = record { same_verb = refl; same_numbers = refl; short = (h.0, tt) }
same_order work_verb (a ∷ b ∷ ns) h = let e = h.1 in let z : ◌≡◌ {A = ℕ} 0 1 = cc in absurd (omega arith)
same_order ceiling_verb [] h = elim h [ ]
same_order ceiling_verb (a ∷ []) h = record { same_verb = refl; same_numbers = refl; short = (h.0, tt) }
same_order ceiling_verb (a ∷ b ∷ ns) h = let e = h.1 in let z : ◌≡◌ {A = ℕ} 0 1 = cc in absurd (omega arith)
same_order show_verb ns h = record { same_verb = refl; same_numbers = sym h; short = tt }
same_order route_verb ns h = record { same_verb = refl; same_numbers = sym h; short = tt }

pub record OrderRead (p : ℕ) (bs : List ℕ) (o : Order) (q : ℕ) (rest : List ℕ) : Type 0 where
  pub short : AllByRecursion Short (numbers o)
  pub took : Took (filled (an_order (verb o)) (numbers o)) p bs q rest

-- An order, by the verb in hand, if there is one.
abbrev pub order_by : Option Verb → ℕ → List ℕ → Got Order
order_by x p bs = elim x [ Some v ↦ and_then (follow (an_order v) p bs) (λ ns q rest. got (order_of v ns) q rest) | None ↦ unwanted (next bs) p ]

pub order_sound : (p : ℕ) (bs : List ℕ) (o : Order) (q : ℕ) (rest : List ℕ) → order_from p bs ≡ got o q rest → OrderRead p bs o q rest
order_sound p bs o q rest e = go (verb_of (next bs)) e
  where
    go : (x : Option Verb) → order_by x p bs ≡ got o q rest → OrderRead p bs o q rest
    go (Some v) e =
        let w = went (follow (an_order v) p bs) (λ ns q rest. got (order_of v ns) q rest) o q rest e in
        let f = follow_sound (an_order v) p bs w.thing w.place w.left w.first in
        let s = same_order v w.thing f.fits in
        let all : order_of v w.thing ≡ o = cc w.second in
        let here : w.place ≡ q = cc w.second in
        let left : w.left ≡ rest = cc w.second in
        let P : Order → Type 0 = λ o. OrderRead p bs o q rest in
        let text : filled (an_order v) w.thing ≡ filled (an_order (verb (order_of v w.thing))) (numbers (order_of v w.thing)) =
        ap (λ z. filled (an_order z) w.thing) (sym s.same_verb)
        ∙ ap (λ z. filled (an_order (verb (order_of v w.thing))) z) (sym s.same_numbers)
        in
        subst P all
        (record {
          short = s.short;
          took =
              record {
                splits = f.took.splits ∙ ap (λ z. z ++ w.left) text ∙ ap (λ z. filled (an_order (verb (order_of v w.thing))) (numbers (order_of v w.thing)) ++ z) left;
                place = omega (arith, f.took.place, here, ap length text);
              };
        })
    go None e = absurd (never_got (next bs) p o q rest e)

verb_named : (v : Verb) → verb_of (word (named v)) ≡ Some v
verb_named ratio_verb = refl
verb_named work_verb = refl
verb_named ceiling_verb = refl
verb_named show_verb = refl
verb_named route_verb = refl

record Lettered (w : List ℕ) : Type 0 where
  some : 0 < length w
  every : Every is_letter w

named_lettered : (v : Verb) → Lettered (named v)
named_lettered ratio_verb = record { some = omega arith; every = (refl, (refl, (refl, (refl, (refl, tt))))) }
named_lettered work_verb = record { some = omega arith; every = (refl, (refl, (refl, (refl, tt)))) }
named_lettered ceiling_verb = record { some = omega arith; every = (refl, (refl, (refl, (refl, (refl, (refl, (refl, tt))))))) }
named_lettered show_verb = record { some = omega arith; every = (refl, (refl, (refl, (refl, tt)))) }
named_lettered route_verb = record { some = omega arith; every = (refl, (refl, (refl, (refl, (refl, tt))))) }

fits_order : (o : Order) → AllByRecursion Short (numbers o) → Fits (an_order (verb o)) (numbers o)
fits_order (Ratio p q) s = (s.0, (s.1.0, refl))
fits_order (Work b) s = (s.0, refl)
fits_order (Ceiling c) s = (s.0, refl)
fits_order Show s = refl
fits_order Route s = refl

pub order_again : (o : Order) → order_of (verb o) (numbers o) ≡ o
order_again (Ratio p q) = refl
order_again (Work b) = refl
order_again (Ceiling c) = refl
order_again Show = refl
order_again Route = refl

order_complete :
    (o : Order) (p q : ℕ) (rest : List ℕ)
    → AllByRecursion Short (numbers o) → q ≡ p + length (filled (an_order (verb o)) (numbers o)) → order_from p (filled (an_order (verb o)) (numbers o) ++ rest) ≡ got o q rest
order_complete o p q rest s e =
    let v = verb o in
    let ns = numbers o in
    let bs = filled (an_order v) ns ++ rest in
    let l = named_lettered v in
    let tail = filled (spaced_numbers (how_many v)) ns in
    let stops : (ns : List ℕ) → Stops is_letter (filled (spaced_numbers (how_many v)) ns ++ rest) = λ ns. (spaced_stops (how_many v) ns rest).1 in
    let shown = shows_word (named v) (tail ++ rest) l.some l.every (stops ns) in
    let mark : next bs ≡ word (named v) = ap next (append_assoc (named v) tail rest) ∙ shown.is in
    let turn : Option Verb → Got Order =
    λ x. elim x [ Some v ↦ and_then (follow (an_order v) p bs) (λ ns q rest. got (order_of v ns) q rest) | None ↦ unwanted (next bs) p ]
    in
    ap turn (ap verb_of mark ∙ verb_named v)
    ∙ goes (follow (an_order v) p bs) (λ ns q rest. got (order_of v ns) q rest) ns q rest (got (order_of v ns) q rest)
    (follow_to (an_order v) ns p q bs rest (fits_order o s) (l.some, l.every, stops, spaced_spaced (how_many v) rest) refl e)
    refl
    ∙ ap (λ z. got z q rest) (order_again o)

pub record OrdersRead (p : ℕ) (bs : List ℕ) (os : List Order) (q : ℕ) (rest : List ℕ) : Type 0 where
  pub short : AllByRecursion (λ o. AllByRecursion Short (numbers o)) os
  pub took : Took (orders_text os) p bs q rest
  pub done : rest ≡ []

pub orders_sound :
    (turns p : ℕ) (bs : List ℕ) (os : List Order) (q : ℕ) (rest : List ℕ) → length bs ≤ turns → orders_from turns p bs ≡ got os q rest → OrdersRead p bs os q rest
orders_sound turns p [] os q rest n e =
    let none : [] ≡ os = cc in
    let here : p ≡ q = cc in
    let left : [] ≡ rest = cc in
    let P : List Order → Type 0 = λ os. OrdersRead p [] os q rest in
    subst P none (record { short = tt; took = record { splits = left; place = omega arith }; done = sym left })
orders_sound zero p (b ∷ bs) os q rest n e = absurd (omega arith)
orders_sound (suc turns) p (b ∷ bs) os q rest n e =
    let w =
    went (follow (opening ∷ []) p (b ∷ bs))
    (λ ns q rest. and_then (order_from q rest) (λ o q rest. and_then (orders_from turns q rest) (λ os q rest. got (o ∷ os) q rest)))
    os
    q
    rest
    e
    in
    let v =
    went (order_from w.place w.left) (λ o q rest. and_then (orders_from turns q rest) (λ os q rest. got (o ∷ os) q rest)) os q rest w.second
    in
    let x = went (orders_from turns v.place v.left) (λ os q rest. got (v.thing ∷ os) q rest) os q rest v.second in
    let f = follow_sound (opening ∷ []) p (b ∷ bs) w.thing w.place w.left w.first in
    let o = order_sound w.place w.left v.thing v.place v.left v.first in
    let one = filled (an_order (verb v.thing)) (numbers v.thing) in
    let used : length v.left ≤ turns =
    omega (arith, ap length f.took.splits, ap length o.took.splits, length-append one v.left, n)
    in
    let h = orders_sound turns v.place v.left x.thing x.place x.left used x.first in
    let all : v.thing ∷ x.thing ≡ os = cc x.second in
    let here : x.place ≡ q = cc x.second in
    let left : x.left ≡ rest = cc x.second in
    let order = took_both (40 ∷ []) one p (b ∷ bs) w.place w.left v.place v.left f.took o.took in
    let both = took_both (40 ∷ one) (orders_text x.thing) p (b ∷ bs) v.place v.left x.place x.left order h.took in
    let P : List Order → Type 0 = λ os. OrdersRead p (b ∷ bs) os q rest in
    subst P all
    (record {
      short = (o.short, h.short);
      took = record { splits = both.splits ∙ ap (λ z. orders_text (v.thing ∷ x.thing) ++ z) left; place = omega (arith, both.place, here) };
      done = sym left ∙ h.done;
    })

pub orders_complete :
    (os : List Order) (turns p q : ℕ)
    → AllByRecursion (λ o. AllByRecursion Short (numbers o)) os → length (orders_text os) ≤ turns → q ≡ p + length (orders_text os)
    → orders_from turns p (orders_text os) ≡ got os q []
orders_complete [] turns p q s n e = let same : q ≡ p = omega arith in ap (λ z. got [] z []) (sym same)
orders_complete (o ∷ os) zero p q s n e = absurd (omega arith)
orders_complete (o ∷ os) (suc turns) p q s n e =
    let one = filled (an_order (verb o)) (numbers o) in
    let more = orders_text os in
    let long = length-append one more in
    goes (follow (opening ∷ []) p (40 ∷ one ++ more))
    (λ ns q rest. and_then (order_from q rest) (λ o q rest. and_then (orders_from turns q rest) (λ os q rest. got (o ∷ os) q rest)))
    []
    (p + 1)
    (one ++ more)
    (got (o ∷ os) q [])
    (follow_to (opening ∷ []) [] p (p + 1) (40 ∷ one ++ more) (one ++ more) refl (refl, tt) refl refl)
    (goes (order_from (p + 1) (one ++ more)) (λ o q rest. and_then (orders_from turns q rest) (λ os q rest. got (o ∷ os) q rest)) o
    (p + 1 + length one)
    more
    (got (o ∷ os) q [])
    (order_complete o (p + 1) (p + 1 + length one) more s.0 refl)
    (goes (orders_from turns (p + 1 + length one) more) (λ os q rest. got (o ∷ os) q rest) os q [] (got (o ∷ os) q [])
    (orders_complete os turns (p + 1 + length one) q s.1 (omega arith) (omega arith))
    refl))
