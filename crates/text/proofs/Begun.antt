-- The faults of layers 1 and 2 are the first: what stands before the place told can be carried on to a document's text.
use Rattle.std.proofs.Common.{◌≡◌, ℕ, zero, suc, ◌+◌, ◌-◌, ◌^◌, ◌<◌, ◌≤◌, Bool, true, false, List, [], ◌∷◌, ◌++◌, length, get_or, take, drop, replicate, Some, None, Option, sym, refl, ap, ◌∙◌, add-zero, zero-add, arith}
use Rattle.std.specs.List.{AllByRecursion}
use Rattle.std.proofs.lemmas.List.{append_assoc, length-append, append-nil, take_at, drop_at, length-replicate}
use Rattle.text.specs.Marks.{Mark, sign, word, number, end, bad, next, width}
use Rattle.text.specs.Forms.{Want, the_sign, the_word, the_number, a_number, Form, filled, meets, keeps, got, fault, and_then, unwanted, follow}
use Rattle.text.specs.Document.{Cut, Document, Verb, Short, ShortCut, Shaped, total, written, first_line, from, a_cut, line_end, spaced_numbers, estimates_line, an_order, how_many, verb, numbers, opening, closing, space, cuts_text, lines_text, orders_text}
use Rattle.text.specs.declared.Order.{Order}
use Rattle.text.specs.declared.Order.TheVariants.{Show}
use Rattle.text.specs.Reading.{cut_of, order_of, verb_of, cuts_from, lines_from, order_from, orders_from, body, document}
use Rattle.text.specs.Causes.{bare_cuts, Allowed, Full, Headed, Miscounted}
use Rattle.text.specs.Promises.{Beginning, FaultsAreFirst}
use Rattle.text.proofs.Marks.{next_stands}
use Rattle.text.proofs.Forms.{apart, unwanted_place, before, behind, where_fault, no_got, follow_by, Took, took_none, took_both, Fits, Followed, follow_sound, read_one}
use Rattle.text.proofs.Cuts.{cuts_by, two, cuts_sound, lines_sound}
use Rattle.text.proofs.Orders.{order_by, spaced_fits, same_order, order_sound}
use Rattle.text.proofs.Documents.{Three, three, doc, counts, counts_true, counts_false, by_count, after_head, Refusal, long, stopped, checked, refusal}

-- Why a reading stopped, with a fault's layer and cause, behind the bytes over and at the mark m: at no mark, at a mark that is not wanted, or
-- at the bracket of a cut too many, where F says that the bytes are full.
pub data Why (F : List ℕ → Type 0) (over : List ℕ) (m : Mark) (l c : ℕ) : Type 0 where
  no_mark : m ≡ bad c → l ≡ 1 → Why F over m l c
  not_wanted : ((k : ℕ) → m ≡ bad k → ⊥) → l ≡ 2 → c ≡ 3 → Why F over m l c
  one_more_cut : F over → m ≡ sign 40 → l ≡ 2 → c ≡ 4 → Why F over m l c

pub why_layer : {F : List ℕ → Type 0} {over : List ℕ} {m : Mark} {l c : ℕ} → Why F over m l c → l ≤ 2
why_layer (no_mark e h) = omega arith
why_layer (not_wanted f h k) = omega arith
why_layer (one_more_cut f e h k) = omega arith

why_on : {F G : List ℕ → Type 0} {over : List ℕ} {m : Mark} {l c : ℕ} (x : List ℕ) → (F over → G (x ++ over)) → Why F over m l c → Why G (x ++ over) m l c
why_on x on (no_mark e h) = no_mark e h
why_on x on (not_wanted f h k) = not_wanted f h k
why_on x on (one_more_cut f e h k) = one_more_cut (on f) e h k

-- What was read from place p up to place q, where the reading stopped, is the beginning of the text of some thing.
pub record Begun {A : Type 0} (w : A → List ℕ) (P : A → Type 0) (F : List ℕ → Type 0) (p : ℕ) (bs : List ℕ) (l c q : ℕ) : Type 0 where
  pub thing : A
  pub fine : P thing
  pub over : List ℕ
  pub left : List ℕ
  pub tail : List ℕ
  pub splits : bs ≡ over ++ left
  pub place : q ≡ p + length over
  pub goes_on : w thing ≡ over ++ tail
  pub why : Why F over (next left) l c

-- In a whole text, what was read stands before the place, and what is left from it on.
pub begun_at :
    {A : Type 0} {w : A → List ℕ} {P : A → Type 0} {F : List ℕ → Type 0} {text : List ℕ} {l c q : ℕ} (g : Begun w P F 0 text l c q)
    → (take q text ≡ g.over) × (drop q text ≡ g.left)
begun_at {q = q} g =
    let n : length g.over ≡ q = omega (arith, g.place) in
    (ap (take q) g.splits ∙ take_at g.over g.left q n, ap (drop q) g.splits ∙ drop_at g.over g.left q n)

-- The bytes x were read, and what follows is a beginning: so is the whole, of a thing whose text has both.
carried :
    {A B : Type 0} {w : A → List ℕ} {P : A → Type 0} {F : List ℕ → Type 0} {v : B → List ℕ} {Q : B → Type 0} {G : List ℕ → Type 0} {p : ℕ} {bs : List ℕ}
    {m : ℕ} {mid : List ℕ} {l c q : ℕ} (x : List ℕ)
    → Took x p bs m mid → (g : Begun w P F m mid l c q) → ((y : List ℕ) → F y → G (x ++ y)) → (b : B) → Q b → (more : List ℕ)
    → v b ≡ x ++ (w g.thing ++ more) → Begun v Q G p bs l c q
carried x t g on b good more e =
    record {
      thing = b;
      fine = good;
      over = x ++ g.over;
      left = g.left;
      tail = g.tail ++ more;
      splits = t.splits ∙ ap (λ z. x ++ z) g.splits ∙ sym (append_assoc x g.over g.left);
      place = omega (arith, t.place, g.place, length-append x g.over);
      goes_on =
          e ∙ ap (λ z. x ++ (z ++ more)) g.goes_on ∙ ap (λ z. x ++ z) (append_assoc g.over g.tail more)
          ∙ sym (append_assoc x g.over (g.tail ++ more));
      why = why_on x (on g.over) g.why;
    }

-- A form has no room to run out of.
abbrev Never : List ℕ → Type 0
Never over = ⊥

unwanted_why : {A : Type 0} (m : Mark) (p l c q : ℕ) → unwanted {A = A} m p ≡ fault l c q → Why Never [] m l c
unwanted_why (sign b) p l c q e = not_wanted (λ k h. let z : ◌≡◌ {A = ℕ} 0 1 = cc in apart z) (cc) (cc)
unwanted_why (word w) p l c q e = not_wanted (λ k h. let z : ◌≡◌ {A = ℕ} 0 1 = cc in apart z) (cc) (cc)
unwanted_why (number n) p l c q e = not_wanted (λ k h. let z : ◌≡◌ {A = ℕ} 0 1 = cc in apart z) (cc) (cc)
unwanted_why end p l c q e = not_wanted (λ k h. let z : ◌≡◌ {A = ℕ} 0 1 = cc in apart z) (cc) (cc)
unwanted_why (bad k) p l c q e = no_mark (cc) (cc)

-- Nothing was read yet.
begins :
    {A B : Type 0} (w : A → List ℕ) (P : A → Type 0) (p : ℕ) (bs : List ℕ) (l c q : ℕ) (a : A) → P a → unwanted {A = B} (next bs) p ≡ fault l c q
    → Begun w P Never p bs l c q
begins w P p bs l c q a good e =
    record {
      thing = a;
      fine = good;
      over = [];
      left = bs;
      tail = w a;
      splits = refl;
      place = unwanted_place (next bs) p l c q e ∙ sym (add-zero p);
      goes_on = refl;
      why = unwanted_why (next bs) p l c q e;
    }

-- A form with its free numbers 0.
abbrev Fillable : Form → Type 0
Fillable [] = Unit {0}
Fillable (the_sign b ∷ f) = Fillable f
Fillable (the_word w ∷ f) = Fillable f
Fillable (the_number k ∷ f) = Short k × Fillable f
Fillable (a_number ∷ f) = Fillable f

spaced_free : (n : ℕ) → Fillable (spaced_numbers n)
spaced_free zero = tt
spaced_free (suc n) = spaced_free n

noughts : Form → List ℕ
noughts [] = []
noughts (the_sign b ∷ f) = noughts f
noughts (the_word w ∷ f) = noughts f
noughts (the_number k ∷ f) = noughts f
noughts (a_number ∷ f) = 0 ∷ noughts f

noughts_fit : (f : Form) → Fillable f → Fits f (noughts f)
unfolding noughts
noughts_fit [] h = refl
noughts_fit (the_sign b ∷ f) h = noughts_fit f h
noughts_fit (the_word w ∷ f) h = noughts_fit f h
noughts_fit (the_number k ∷ f) h = (h.0, noughts_fit f h.1)
noughts_fit (a_number ∷ f) h = (omega arith, noughts_fit f h)

fillable_rest : (w : Want) (f : Form) → Fillable (w ∷ f) → Fillable f
fillable_rest (the_sign b) f h = h
fillable_rest (the_word v) f h = h
fillable_rest (the_number k) f h = h.1
fillable_rest a_number f h = h

follow_begun : (f : Form) → Fillable f → (p : ℕ) (bs : List ℕ) (l c q : ℕ) → follow f p bs ≡ fault l c q → Begun (filled f) (Fits f) Never p bs l c q
follow_begun [] h p bs l c q e = no_got [] p bs l c q e
follow_begun (w ∷ f) h p bs l c q e = go (meets w (next bs)) refl e (follow_begun f (fillable_rest w f h) (p + width bs) (drop (width bs) bs) l c q)
  where
    go :
        (t : Bool) → meets w (next bs) ≡ t → follow_by w f p bs t ≡ fault l c q
        → (follow f (p + width bs) (drop (width bs) bs) ≡ fault l c q → Begun (filled f) (Fits f) Never (p + width bs) (drop (width bs) bs) l c q)
        → Begun (filled (w ∷ f)) (Fits (w ∷ f)) Never p bs l c q
    go true t e ih =
        elim (where_fault (follow f (p + width bs) (drop (width bs) bs)) (λ ns q rest. got (keeps w (next bs) ns) q rest) l c q e) [
          | before r ↦
              let g = ih r in
              let one = read_one w f (next bs) (width bs) bs g.thing t (next_stands bs) g.fine in
              carried one.bytes (record { splits = one.begins.splits; place = ap (λ z. p + z) one.begins.long }) g (λ y h. absurd h) (keeps w (next bs) g.thing)
              one.fits
              []
              (one.fills ∙ ap (λ z. one.bytes ++ z) (sym (append-nil (filled f g.thing))))
          | behind ns m mid r k ↦ no_got (keeps w (next bs) ns) m mid l c q k
        ]
    go false t e ih = begins (filled (w ∷ f)) (Fits (w ∷ f)) p bs l c q (noughts (w ∷ f)) (noughts_fit (w ∷ f) h) e

-- As many cuts as there is room for, and a space.
record FullCuts (room : ℕ) (bs : List ℕ) : Type 0 where
  cuts : List Cut
  short : AllByRecursion ShortCut cuts
  all : length cuts ≡ room
  is : bs ≡ bare_cuts cuts ++ (32 ∷ [])

-- A line's end, and a first cut.
line_end_begun : (room p : ℕ) (bs : List ℕ) (l c q : ℕ) → and_then {B = List Cut} (follow line_end p bs) (λ ns q rest. got [] q rest) ≡ fault l c q → Begun cuts_text (AllByRecursion ShortCut) (FullCuts room) p bs l c q
line_end_begun room p bs l c q e =
    elim (where_fault {B = List Cut} (follow line_end p bs) (λ ns q rest. got [] q rest) l c q e) [
      | before r ↦
          let g = follow_begun line_end tt p bs l c q r in
          carried [] (took_none p bs) g (λ y h. absurd h) [] tt [] (sym (append-nil (filled line_end [])))
      | behind ns m mid r k ↦ no_got [] m mid l c q k
    ]

abbrev free_cut : Cut
free_cut = record { target = 0; cost = 0 }

cuts_begun : (room p : ℕ) (bs : List ℕ) (l c q : ℕ) → cuts_from room p bs ≡ fault l c q → Begun cuts_text (AllByRecursion ShortCut) (FullCuts room) p bs l c q
cuts_begun zero p bs l c q e = go (meets closing (next bs)) e
  where
    go : (t : Bool) → cuts_by zero p bs t ≡ fault l c q → Begun cuts_text (AllByRecursion ShortCut) (FullCuts zero) p bs l c q
    go true e = line_end_begun zero p bs l c q e
    go false e =
        elim (where_fault {B = List Cut} (follow (space ∷ opening ∷ []) p bs) (λ ns q rest. fault 2 4 (q - 1)) l c q e) [
          | before r ↦
              let g = follow_begun (space ∷ opening ∷ []) tt p bs l c q r in
              carried [] (took_none p bs) g (λ y h. absurd h) (free_cut ∷ []) ((omega arith, omega arith), tt) (drop 2 (cuts_text (free_cut ∷ []))) refl
          | behind ns m mid r k ↦
              let f = follow_sound (space ∷ opening ∷ []) p bs ns m mid r in
              let here : m - 1 ≡ q = cc in
              record {
                thing = free_cut ∷ [];
                fine = ((omega arith, omega arith), tt);
                over = 32 ∷ [];
                left = 40 ∷ mid;
                tail = drop 1 (cuts_text (free_cut ∷ []));
                splits = f.took.splits;
                place = omega (arith, f.took.place, here);
                goes_on = refl;
                why =
                    one_more_cut (record { cuts = []; short = tt; all = refl; is = refl }) refl (let k : l ≡ 2 = cc in k) (let k : c ≡ 4 = cc in k);
              }
        ]
cuts_begun (suc room) p bs l c q e = go (meets closing (next bs)) e (cuts_begun room)
  where
    go :
        (t : Bool) → cuts_by (suc room) p bs t ≡ fault l c q
        → ((p : ℕ) (bs : List ℕ) (l c q : ℕ) → cuts_from room p bs ≡ fault l c q → Begun cuts_text (AllByRecursion ShortCut) (FullCuts room) p bs l c q)
        → Begun cuts_text (AllByRecursion ShortCut) (FullCuts (suc room)) p bs l c q
    go true e ih = line_end_begun (suc room) p bs l c q e
    go false e ih =
        elim (where_fault (follow a_cut p bs) (λ ns q rest. and_then (cuts_from room q rest) (λ cs q rest. got (cut_of ns ∷ cs) q rest)) l c q e) [
          | before r ↦
              let g = follow_begun a_cut tt p bs l c q r in
              let t = two g.thing g.fine in
              carried [] (took_none p bs) g (λ y h. absurd h) (cut_of g.thing ∷ []) (t.short, tt) (cuts_text [])
              (ap (λ z. filled a_cut z ++ cuts_text []) (sym t.is))
          | behind ns m mid r k ↦
              elim (where_fault (cuts_from room m mid) (λ cs q rest. got (cut_of ns ∷ cs) q rest) l c q k) [
                | before s ↦
                    let f = follow_sound a_cut p bs ns m mid r in
                    let t = two ns f.fits in
                    let g = ih m mid l c q s in
                    let on : (y : List ℕ) → FullCuts room y → FullCuts (suc room) (filled a_cut ns ++ y) =
                    λ y h.
                    record {
                      cuts = cut_of ns ∷ h.cuts;
                      short = (t.short, h.short);
                      all = ap suc h.all;
                      is =
                          ap (λ z. z ++ y) (ap (filled a_cut) t.is) ∙ ap (λ z. filled a_cut ((cut_of ns).target ∷ (cut_of ns).cost ∷ []) ++ z) h.is
                          ∙ sym (append_assoc (filled a_cut ((cut_of ns).target ∷ (cut_of ns).cost ∷ [])) (bare_cuts h.cuts) (32 ∷ []));
                    }
                    in
                    carried (filled a_cut ns) f.took g on (cut_of ns ∷ g.thing) (t.short, g.fine) []
                    (ap (λ z. filled a_cut z ++ cuts_text g.thing) (sym t.is) ∙ ap (λ z. filled a_cut ns ++ z) (sym (append-nil (cuts_text g.thing))))
                | behind cs n left s j ↦ no_got (cut_of ns ∷ cs) n left l c q j
              ]
        ]

-- Lines with no cuts, for the states that are left.
record Lines (k : ℕ) (css : List (List Cut)) : Type 0 where
  all : length css ≡ k
  short : AllByRecursion (AllByRecursion ShortCut) css

-- Whole lines of fewer than k states from u on, and of the next line its cuts so far and a space: as many cuts as there is room for.
pub record FullLines (k u room : ℕ) (bs : List ℕ) : Type 0 where
  pub whole : List (List Cut)
  pub begun : List Cut
  pub more : length whole < k
  pub whole_short : AllByRecursion (AllByRecursion ShortCut) whole
  pub begun_short : AllByRecursion ShortCut begun
  pub all : total whole + length begun ≡ room
  pub is : bs ≡ lines_text u whole ++ (filled (from (u + length whole)) [] ++ (bare_cuts begun ++ (32 ∷ [])))

first_full : (k u room : ℕ) (y : List ℕ) → FullCuts room y → FullLines (suc k) u room (filled (from u) [] ++ y)
first_full k u room y h =
    record {
      whole = [];
      begun = h.cuts;
      more = omega arith;
      whole_short = tt;
      begun_short = h.short;
      all = omega (arith, h.all);
      is = ap (λ z. filled (from u) [] ++ z) h.is ∙ ap (λ z. filled (from z) [] ++ (bare_cuts h.cuts ++ (32 ∷ []))) (sym (add-zero u));
    }

later_full :
    (k u room : ℕ) (cs : List Cut) (y : List ℕ)
    → AllByRecursion ShortCut cs → length cs ≤ room → FullLines k (suc u) (room - length cs) y → FullLines (suc k) u room ((filled (from u) [] ++ cuts_text cs) ++ y)
later_full k u room cs y s n h =
    let line = filled (from u) [] ++ cuts_text cs in
    let last : ℕ → List ℕ = λ v. filled (from v) [] ++ (bare_cuts h.begun ++ (32 ∷ [])) in
    let same : suc u + length h.whole ≡ u + length (cs ∷ h.whole) = omega arith in
    record {
      whole = cs ∷ h.whole;
      begun = h.begun;
      more = omega (arith, h.more);
      whole_short = (s, h.whole_short);
      begun_short = h.begun_short;
      all = omega (arith, h.all);
      is =
          ap (λ z. line ++ z) (h.is ∙ ap (λ v. lines_text (suc u) h.whole ++ last v) same)
          ∙ sym (append_assoc line (lines_text (suc u) h.whole) (last (u + length (cs ∷ h.whole))));
    }

bare : (k : ℕ) → Lines k (replicate k [])
bare k = record { all = length-replicate k []; short = go k }
  where
    go : (k : ℕ) → AllByRecursion (AllByRecursion ShortCut) (replicate k [])
    go zero = tt
    go (suc k) = (tt, go k)

one_more : (k : ℕ) (cs : List Cut) (css : List (List Cut)) → AllByRecursion ShortCut cs → Lines k css → Lines (suc k) (cs ∷ css)
one_more k cs css s h = record { all = ap suc h.all; short = (s, h.short) }

lines_begun :
    (k u room p : ℕ) (bs : List ℕ) (l c q : ℕ) → u + k ≤ 10 ^ 7 → lines_from k u room p bs ≡ fault l c q → Begun (lines_text u) (Lines k) (FullLines k u room) p bs l c q
lines_begun zero u room p bs l c q n e = no_got [] p bs l c q e
lines_begun (suc k) u room p bs l c q n e =
    elim (where_fault (follow (from u) p bs)
    (λ ns q rest.
    and_then (cuts_from room q rest)
    (λ cs q rest. and_then (lines_from k (suc u) (room - length cs) q rest) (λ css q rest. got (cs ∷ css) q rest)))
    l
    c
    q
    e) [
      | before r ↦
          let g = follow_begun (from u) (omega arith, tt) p bs l c q r in
          let b = bare k in
          let more = lines_text (suc u) (replicate k []) in
          carried [] (took_none p bs) g (λ y h. absurd h) ([] ∷ replicate k []) (one_more k [] (replicate k []) tt b) (cuts_text [] ++ more)
          (append_assoc (filled (from u) []) (cuts_text []) more)
      | behind ns m mid r k1 ↦
          elim (where_fault (cuts_from room m mid) (λ cs q rest. and_then (lines_from k (suc u) (room - length cs) q rest) (λ css q rest. got (cs ∷ css) q rest)) l c q k1) [
            | before s ↦
                let f = follow_sound (from u) p bs ns m mid r in
                let g = cuts_begun room m mid l c q s in
                let b = bare k in
                let more = lines_text (suc u) (replicate k []) in
                carried (filled (from u) []) f.took g (first_full k u room) (g.thing ∷ replicate k []) (one_more k g.thing (replicate k []) g.fine b) more
                (append_assoc (filled (from u) []) (cuts_text g.thing) more)
            | behind cs n1 left s k2 ↦
                elim (where_fault (lines_from k (suc u) (room - length cs) n1 left) (λ css q rest. got (cs ∷ css) q rest) l c q k2) [
                  | before t ↦
                      let f = follow_sound (from u) p bs ns m mid r in
                      let d = cuts_sound room m mid cs n1 left s in
                      let g = lines_begun k (suc u) (room - length cs) n1 left l c q (omega arith) t in
                      let line = filled (from u) [] ++ cuts_text cs in
                      carried line (took_both (filled (from u) []) (cuts_text cs) p bs m mid n1 left f.took d.took) g
                      (λ y. later_full k u room cs y d.short d.few)
                      (cs ∷ g.thing)
                      (one_more k cs g.thing d.short g.fine)
                      []
                      (ap (λ z. line ++ z) (sym (append-nil (lines_text (suc u) g.thing))))
                  | behind css n2 last t k3 ↦ no_got (cs ∷ css) n2 last l c q k3
                ]
          ]
    ]

-- Orders.
abbrev order_text : Order → List ℕ
order_text o = filled (an_order (verb o)) (numbers o)

order_begun : (p : ℕ) (bs : List ℕ) (l c q : ℕ) → order_from p bs ≡ fault l c q → Begun order_text (λ o. AllByRecursion Short (numbers o)) Never p bs l c q
order_begun p bs l c q e = go (verb_of (next bs)) e
  where
    go : (x : Option Verb) → order_by x p bs ≡ fault l c q → Begun order_text (λ o. AllByRecursion Short (numbers o)) Never p bs l c q
    go (Some v) e =
        elim (where_fault (follow (an_order v) p bs) (λ ns q rest. got (order_of v ns) q rest) l c q e) [
          | before r ↦
              let g = follow_begun (an_order v) (spaced_free (how_many v)) p bs l c q r in
              let s = same_order v g.thing g.fine in
              carried [] (took_none p bs) g (λ y h. absurd h) (order_of v g.thing) s.short []
              (ap (λ z. filled (an_order z) (numbers (order_of v g.thing))) s.same_verb ∙ ap (filled (an_order v)) s.same_numbers
              ∙ sym (append-nil (filled (an_order v) g.thing)))
          | behind ns m mid r k ↦ no_got (order_of v ns) m mid l c q k
        ]
    go None e = begins order_text (λ o. AllByRecursion Short (numbers o)) p bs l c q Show tt e

orders_begun :
    (turns p : ℕ) (bs : List ℕ) (l c q : ℕ) → orders_from turns p bs ≡ fault l c q → Begun orders_text (AllByRecursion (λ o. AllByRecursion Short (numbers o))) Never p bs l c q
orders_begun turns p [] l c q e = no_got [] p [] l c q e
orders_begun zero p (b ∷ bs) l c q e = no_got [] p (b ∷ bs) l c q e
orders_begun (suc turns) p (b ∷ bs) l c q e =
    elim (where_fault (follow (opening ∷ []) p (b ∷ bs))
    (λ ns q rest. and_then (order_from q rest) (λ o q rest. and_then (orders_from turns q rest) (λ os q rest. got (o ∷ os) q rest)))
    l
    c
    q
    e) [
      | before r ↦
          let g = follow_begun (opening ∷ []) tt p (b ∷ bs) l c q r in
          carried [] (took_none p (b ∷ bs)) g (λ y h. absurd h) (Show ∷ []) (tt, tt) (order_text Show ++ []) refl
      | behind ns m mid r k1 ↦
          elim (where_fault (order_from m mid) (λ o q rest. and_then (orders_from turns q rest) (λ os q rest. got (o ∷ os) q rest)) l c q k1) [
            | before s ↦
                let f = follow_sound (opening ∷ []) p (b ∷ bs) ns m mid r in
                let g = order_begun m mid l c q s in
                carried (40 ∷ []) f.took g (λ y h. absurd h) (g.thing ∷ []) (g.fine, tt) [] refl
            | behind o n1 left s k2 ↦
                elim (where_fault (orders_from turns n1 left) (λ os q rest. got (o ∷ os) q rest) l c q k2) [
                  | before t ↦
                      let f = follow_sound (opening ∷ []) p (b ∷ bs) ns m mid r in
                      let d = order_sound m mid o n1 left s in
                      let g = orders_begun turns n1 left l c q t in
                      carried (40 ∷ order_text o) (took_both (40 ∷ []) (order_text o) p (b ∷ bs) m mid n1 left f.took d.took) g (λ y h. absurd h) (o ∷ g.thing)
                      (d.short, g.fine)
                      []
                      (ap (λ z. 40 ∷ order_text o ++ z) (sym (append-nil (orders_text g.thing))))
                  | behind os n2 last t k3 ↦ no_got (o ∷ os) n2 last l c q k3
                ]
          ]
    ]

-- The body of a text, under a first line that says n, s and g.
record Numbers (k : ℕ) (hs : List ℕ) : Type 0 where
  all : length hs ≡ k
  short : AllByRecursion Short hs

zeros : (k : ℕ) → Numbers k (replicate k 0)
zeros k = record { all = length-replicate k 0; short = go k }
  where
    go : (k : ℕ) → AllByRecursion Short (replicate k 0)
    go zero = tt
    go (suc k) = (omega arith, go k)

abbrev body_text : Document → List ℕ
body_text d = lines_text 0 d.cuts ++ (filled (estimates_line d.states) d.estimates ++ orders_text d.orders)

record Under (n s g : ℕ) (d : Document) : Type 0 where
  states : d.states ≡ n
  start : d.start ≡ s
  goal : d.goal ≡ g
  shaped : Shaped d

under :
    (n s g : ℕ) (css : List (List Cut)) (hs : List ℕ) (os : List Order)
    → Short n → Short s → Short g → Lines n css → Numbers n hs → AllByRecursion (λ o. AllByRecursion Short (numbers o)) os → Under n s g (doc n s g css hs os)
under n s g css hs os ns ss gs lc nh so =
    record {
      states = refl;
      start = refl;
      goal = refl;
      shaped =
          record {
            states_short = ns;
            start_short = ss;
            goal_short = gs;
            lines = lc.all;
            cuts_short = lc.short;
            estimates_all = nh.all;
            estimates_short = nh.short;
            orders_short = so;
          };
    }

body_begun :
    (n s g p : ℕ) (bs : List ℕ) (l c q : ℕ) → Short n → Short s → Short g → body n s g p bs ≡ fault l c q → Begun body_text (Under n s g) (FullLines n 0 8192) p bs l c q
body_begun n s g p bs l c q ns ss gs e =
    elim (where_fault (lines_from n 0 8192 p bs)
    (λ css q rest.
    and_then (follow (estimates_line n) q rest)
    (λ hs q rest. and_then (orders_from (length rest) q rest) (λ os q rest. got (doc n s g css hs os) q rest)))
    l
    c
    q
    e) [
      | before r ↦
          let v = lines_begun n 0 8192 p bs l c q (omega arith) r in
          carried [] (took_none p bs) v (λ y h. h) (doc n s g v.thing (replicate n 0) []) (under n s g v.thing (replicate n 0) [] ns ss gs v.fine (zeros n) tt)
          (filled (estimates_line n) (replicate n 0) ++ [])
          refl
      | behind css m mid r k1 ↦
          elim (where_fault (follow (estimates_line n) m mid) (λ hs q rest. and_then (orders_from (length rest) q rest) (λ os q rest. got (doc n s g css hs os) q rest)) l c q k1) [
            | before t ↦
                let f = lines_sound n 0 8192 p bs css m mid r in
                let v = follow_begun (estimates_line n) (spaced_free n) m mid l c q t in
                let h = spaced_fits n v.thing v.fine in
                carried (lines_text 0 css) f.took v (λ y h. absurd h) (doc n s g css v.thing [])
                (under n s g css v.thing [] ns ss gs (record { all = f.all; short = f.short }) (record { all = h.0; short = h.1 }) tt)
                []
                refl
            | behind hs m1 mid1 t k2 ↦
                elim (where_fault (orders_from (length mid1) m1 mid1) (λ os q rest. got (doc n s g css hs os) q rest) l c q k2) [
                  | before o ↦
                      let f = lines_sound n 0 8192 p bs css m mid r in
                      let d = follow_sound (estimates_line n) m mid hs m1 mid1 t in
                      let h = spaced_fits n hs d.fits in
                      let v = orders_begun (length mid1) m1 mid1 l c q o in
                      let ls = lines_text 0 css in
                      let es = filled (estimates_line n) hs in
                      carried (ls ++ es) (took_both ls es p bs m mid m1 mid1 f.took d.took) v (λ y h. absurd h) (doc n s g css hs v.thing)
                      (under n s g css hs v.thing ns ss gs (record { all = f.all; short = f.short }) (record { all = h.0; short = h.1 }) v.fine)
                      []
                      (ap (λ z. ls ++ (es ++ z)) (sym (append-nil (orders_text v.thing))) ∙ sym (append_assoc ls es (orders_text v.thing ++ [])))
                  | behind os m2 mid2 o k3 ↦ no_got (doc n s g css hs os) m2 mid2 l c q k3
                ]
          ]
    ]

head_of : (ns y : List ℕ) {bs : List ℕ} → Three ns → bs ≡ filled first_line ns ++ y → Headed (get_or ns 0 0) bs
head_of ns y t e =
    record {
      start = get_or ns 1 0;
      goal = get_or ns 2 0;
      rest = y;
      states_short = t.states_short;
      start_short = t.start_short;
      goal_short = t.goal_short;
      is = e ∙ ap (λ z. filled first_line z ++ y) t.is;
    }

-- Full lines under a first line that says as many states as are allowed.
full_text : (ns y : List ℕ) → Three ns → Allowed (get_or ns 0 0) → FullLines (get_or ns 0 0) 0 8192 y → Full (filled first_line ns ++ y)
unfolding head_of
full_text ns y t range h =
    record {
      states = get_or ns 0 0;
      allowed = range;
      head = head_of ns y t refl;
      whole = h.whole;
      begun = h.begun;
      more = h.more;
      whole_short = h.whole_short;
      begun_short = h.begun_short;
      all = h.all;
      is =
          h.is
          ∙ ap (λ z. lines_text 0 h.whole ++ (filled (from z) [] ++ (bare_cuts h.begun ++ (32 ∷ [])))) (zero-add (length h.whole));
    }

-- A reading that stopped did so at a beginning of some document's text; or behind a first line, for the number of states that it says.
pub data Stopped (text : List ℕ) (l c q : ℕ) : Type 0 where
  at_beginning : Begun written Shaped Full 0 text l c q → Stopped text l c q
  at_count : l ≡ 3 → q ≡ 0 → Miscounted text → Stopped text l c q

pub document_stopped : (text : List ℕ) (l c q : ℕ) → document text ≡ fault l c q → Stopped text l c q
unfolding after_head
document_stopped text l c q e =
    elim (where_fault (follow first_line 0 text) after_head l c q e) [
      | before r ↦
          let v = follow_begun first_line tt 0 text l c q r in
          let t = three v.thing v.fine in
          let n = get_or v.thing 0 0 in
          let d = doc n (get_or v.thing 1 0) (get_or v.thing 2 0) (replicate n []) (replicate n 0) [] in
          at_beginning
          (carried [] (took_none 0 text) v (λ y h. absurd h) d
          (under n (get_or v.thing 1 0) (get_or v.thing 2 0) (replicate n []) (replicate n 0) [] t.states_short t.start_short t.goal_short
          (bare n)
          (zeros n)
          tt
          ).shaped
          (body_text d)
          (ap (λ z. filled first_line z ++ body_text d) (sym t.is)))
      | behind ns m mid r k ↦
          let f = follow_sound first_line 0 text ns m mid r in
          let t = three ns f.fits in
          inner ns m mid f t (counts (get_or ns 0 0)) refl k
    ]
  where
    inner :
        (ns : List ℕ) (m : ℕ) (mid : List ℕ)
        → Followed first_line 0 text ns m mid → Three ns → (b : Bool) → counts (get_or ns 0 0) ≡ b → by_count ns m mid b ≡ fault l c q → Stopped text l c q
    inner ns m mid f t true r k =
        let n = get_or ns 0 0 in
        let v = body_begun n (get_or ns 1 0) (get_or ns 2 0) m mid l c q t.states_short t.start_short t.goal_short k in
        let d = v.thing in
        let line : filled first_line (d.states ∷ d.start ∷ d.goal ∷ []) ≡ filled first_line ns =
        ap (filled first_line)
        (ap (λ z. z ∷ d.start ∷ d.goal ∷ []) v.fine.states ∙ ap (λ z. n ∷ z ∷ d.goal ∷ []) v.fine.start
        ∙ ap (λ z. n ∷ get_or ns 1 0 ∷ z ∷ []) v.fine.goal
        ∙ sym t.is)
        in
        at_beginning
        (carried (filled first_line ns) f.took v (λ y. full_text ns y t (counts_true n r)) d v.fine.shaped []
        (ap (λ z. z ++ body_text d) line ∙ ap (λ z. filled first_line ns ++ z) (sym (append-nil (body_text d)))))
    inner ns m mid f t false r k =
        at_count (cc) (cc)
        (record {
          states = get_or ns 0 0;
          head = head_of ns mid t f.took.splits;
          not_allowed = counts_false (get_or ns 0 0) r;
        })

pub faults_are_first : FaultsAreFirst
faults_are_first text l c p short says small = go (refusal text l c p says)
  where
    go : Refusal text l c p → (p ≤ length text) × Beginning (take p text)
    go (long h a b m) = absurd (omega arith)
    go (checked d h a w) = absurd (omega arith)
    go (stopped h e) =
        elim (document_stopped text l c p e) [
          | at_count a b m ↦ absurd (omega arith)
          | at_beginning v ↦
              let front : take p text ≡ v.over = (begun_at v).0 in (
                omega (arith, v.place, ap length v.splits, length-append v.over v.left),
                record { document = v.thing; shaped = v.fine; rest = v.tail; is = v.goes_on ∙ ap (λ z. z ++ v.tail) (sym front) },
              )
        ]
