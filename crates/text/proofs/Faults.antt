-- The faults of layers 1 and 2 are real: nothing behind the mark at the place told can mend the text.
use Rattle.std.proofs.Common.{◌≡◌, ℕ, zero, suc, ◌+◌, ◌-◌, ◌≤◌, Bool, true, false, List, [], ◌∷◌, ◌++◌, length, get_or, take, drop, Some, None, Option, sym, refl, ap, ◌∙◌, subst, inl, inr, le_refl, arith}
use Rattle.std.specs.List.{prefix_len}
use Rattle.std.proofs.lemmas.List.{length-append, length-take, append-nil, take-append-drop, take_at, drop_at, drop_all, drop-drop, append_cancel_left}
use Rattle.std.proofs.lemmas.Bool.{cases_lt}
use Rattle.text.specs.Marks.{Mark, sign, word, number, end, bad, is_digit, kind, mark_of, next, width}
use Rattle.text.specs.declared.Kind.{Kind}
use Rattle.text.specs.declared.Kind.TheVariants.{Single, Letter, Digit, Outside}
use Rattle.text.specs.Forms.{meets, Got, got, fault, and_then, follow, filled}
use Rattle.text.specs.Document.{Cut, Document, Verb, written, first_line, from, a_cut, line_end, estimates_line, an_order, opening, closing, space, orders_text, verb, numbers}
use Rattle.text.specs.declared.Order.{Order}
use Rattle.text.specs.Reading.{cut_of, order_of, verb_of, cuts_from, lines_from, order_from, orders_from, body, document, parsed}
use Rattle.text.specs.Verdicts.{Verdict, accepted, refused, Concludes}
use Rattle.text.specs.Causes.{Starts, at_first, at_next}
use Rattle.text.specs.Promises.{WrittenOnce, VerdictOnce, FaultsAreReal}
use Rattle.text.proofs.Marks.{begins_with, end_empty, figures_as}
use Rattle.text.proofs.Forms.{apart, went, before, behind, where_fault, no_got, Followed, follow_sound}
use Rattle.text.proofs.Orders.{order_by, order_sound, orders_sound, orders_complete}
use Rattle.text.proofs.Documents.{document_complete, doc, counts, by_count, after_head, parsed_short, parsed_long, Refusal, long, stopped, checked, refusal}
use Rattle.text.proofs.Local.{Steps, no_step, a_step, again_as, FaultAgain, Local, local_got, local_third, local_same, local_then, local_by, local_choice, local_unwanted, follow_local}

-- The cut too many, told at its bracket.
one_too_many : ℕ → List ℕ → Got (List Cut)
one_too_many p bs = and_then (follow (space ∷ opening ∷ []) p bs) (λ ns q rest. fault 2 4 (q - 1))

local_too_many : Local one_too_many
unfolding one_too_many
local_too_many =
    record {
      gots =
          λ p bs a q rest e.
          let w = went (follow (space ∷ opening ∷ []) p bs) (λ ns q rest. fault 2 4 (q - 1)) a q rest e in
          no_got a q rest 2 4 (w.place - 1) (sym w.second);
      faults =
          λ p bs l c q e small.
          elim (where_fault (follow (space ∷ opening ∷ []) p bs) one_more l c q e) [
            | before h ↦
                let u = (follow_local (space ∷ opening ∷ [])).faults p bs l c q h small in
                record {
                  over = u.over;
                  left = u.left;
                  is = again_as one_too_many p bs u.over u.left q (λ z. fault l c q) u.is (λ z t. ap (λ x. and_then x one_more) (u.is.again z t));
                }
            | behind ns m rest h t ↦ stop p bs l c q ns m rest (follow_sound (space ∷ opening ∷ []) p bs ns m rest h) t
          ];
    }
  where
    one_more : List ℕ → ℕ → List ℕ → Got (List Cut)
    one_more ns q rest = fault 2 4 (q - 1)

    stop :
        (p : ℕ) (bs : List ℕ) (l c q : ℕ) (ns : List ℕ) (m : ℕ) (rest : List ℕ)
        → Followed (space ∷ opening ∷ []) p bs ns m rest → one_more ns m rest ≡ fault l c q → FaultAgain one_too_many p bs l c q
    stop p bs l c q ns m rest f h =
        let la : 2 ≡ l = cc in
        let ca : 4 ≡ c = cc in
        let qa : m - 1 ≡ q = cc in
        let there : p + 1 ≡ q = omega (arith, f.took.place, qa) in
        record {
          over = 32 ∷ [];
          left = 40 ∷ rest;
          is =
              record {
                splits = f.took.splits;
                place = sym there;
                again =
                    λ z t.
                    ap (λ y. one_too_many p (32 ∷ y)) (begins_with 40 z t) ∙ ap (λ y. fault 2 4 y) (let d : p + 1 + 1 - 1 ≡ q = omega arith in d)
                    ∙ ap (λ y. fault y 4 q) la
                    ∙ ap (λ y. fault l y q) ca;
                same = λ z t. ap next (sym f.took.splits);
                marks =
                    let P : List ℕ → Type 0 = λ x. Steps p x q (40 ∷ rest) in
                    subst P (sym f.took.splits) (a_step p (32 ∷ 40 ∷ rest) q (40 ∷ rest) (no_step (p + 1) (40 ∷ rest) q (40 ∷ rest) there refl));
              };
        }

line_end_local : Local (λ p bs. and_then {B = List Cut} (follow line_end p bs) (λ ns q rest. got [] q rest))
line_end_local = local_then (follow line_end) (λ ns q rest. got [] q rest) (follow_local line_end) (λ ns. local_got [])

cuts_local : (room : ℕ) → Local (cuts_from room)
unfolding one_too_many
cuts_local zero =
    local_same
    (λ p bs. elim (meets closing (next bs)) [ true ↦ and_then (follow line_end p bs) (λ ns q rest. got [] q rest) | false ↦ one_too_many p bs ])
    (cuts_from zero)
    (λ p bs. refl)
    (local_choice (meets closing) (λ p bs. and_then (follow line_end p bs) (λ ns q rest. got [] q rest)) one_too_many line_end_local local_too_many)
cuts_local (suc room) =
    local_same
    (λ p bs.
    elim (meets closing (next bs)) [
      | true ↦ and_then (follow line_end p bs) (λ ns q rest. got [] q rest)
      | false ↦ and_then (follow a_cut p bs) (λ ns q rest. and_then (cuts_from room q rest) (λ cs q rest. got (cut_of ns ∷ cs) q rest))
    ])
    (cuts_from (suc room))
    (λ p bs. refl)
    (local_choice (meets closing) (λ p bs. and_then (follow line_end p bs) (λ ns q rest. got [] q rest))
    (λ p bs. and_then (follow a_cut p bs) (λ ns q rest. and_then (cuts_from room q rest) (λ cs q rest. got (cut_of ns ∷ cs) q rest)))
    line_end_local
    (local_then (follow a_cut) (λ ns q rest. and_then (cuts_from room q rest) (λ cs q rest. got (cut_of ns ∷ cs) q rest)) (follow_local a_cut)
    (λ ns. local_then (cuts_from room) (λ cs q rest. got (cut_of ns ∷ cs) q rest) (cuts_local room) (λ cs. local_got (cut_of ns ∷ cs)))))

lines_local : (k u room : ℕ) → Local (lines_from k u room)
lines_local zero u room = local_got []
lines_local (suc k) u room =
    local_then (follow (from u))
    (λ ns q rest.
    and_then (cuts_from room q rest)
    (λ cs q rest. and_then (lines_from k (suc u) (room - length cs) q rest) (λ css q rest. got (cs ∷ css) q rest)))
    (follow_local (from u))
    (λ ns.
    local_then (cuts_from room) (λ cs q rest. and_then (lines_from k (suc u) (room - length cs) q rest) (λ css q rest. got (cs ∷ css) q rest))
    (cuts_local room)
    (λ cs.
    local_then (lines_from k (suc u) (room - length cs)) (λ css q rest. got (cs ∷ css) q rest) (lines_local k (suc u) (room - length cs))
    (λ css. local_got (cs ∷ css))))

pick_local : (x : Option Verb) → Local (order_by x)
pick_local (Some v) = local_then (follow (an_order v)) (λ ns q rest. got (order_of v ns) q rest) (follow_local (an_order v)) (λ ns. local_got (order_of v ns))
pick_local None = local_unwanted

order_local : Local order_from
order_local = local_by verb_of order_by pick_local

-- The orders.
at_end : Mark → Bool
at_end m = elim m [ sign b ↦ false | word w ↦ false | number n ↦ false | end ↦ true | bad c ↦ false ]

not_at_end : (b : ℕ) (bs : List ℕ) → at_end (next (b ∷ bs)) ≡ false
unfolding at_end
not_at_end b bs = go (kind b)
  where
    go : (k : Kind) → at_end (mark_of k b (b ∷ bs)) ≡ false
    go Single = refl
    go Letter = refl
    go Digit = figures_as at_end false (take (prefix_len is_digit (b ∷ bs)) (b ∷ bs)) (λ n. refl) refl
    go Outside = refl

one_order : (ℕ → List ℕ → Got (List Order)) → ℕ → List ℕ → Got (List Order)
one_order more p bs =
    and_then (follow (opening ∷ []) p bs)
    (λ ns q rest. and_then (order_from q rest) (λ o q rest. and_then (more q rest) (λ os q rest. got (o ∷ os) q rest)))

one_order_local : (more : ℕ → List ℕ → Got (List Order)) → Local more → Local (one_order more)
unfolding one_order
one_order_local more h =
    local_then (follow (opening ∷ [])) (λ ns q rest. and_then (order_from q rest) (λ o q rest. and_then (more q rest) (λ os q rest. got (o ∷ os) q rest)))
    (follow_local (opening ∷ []))
    (λ ns.
    local_then order_from (λ o q rest. and_then (more q rest) (λ os q rest. got (o ∷ os) q rest)) order_local
    (λ o. local_then more (λ os q rest. got (o ∷ os) q rest) h (λ os. local_got (o ∷ os))))

orders_local : (turns : ℕ) → Local (orders_from turns)
unfolding at_end one_order
orders_local zero = local_same (λ p bs. got [] p bs) (orders_from zero) same (local_got [])
  where
    same : (p : ℕ) (bs : List ℕ) → got [] p bs ≡ orders_from zero p bs
    same p [] = refl
    same p (b ∷ bs) = refl
orders_local (suc turns) =
    local_same (λ p bs. elim (at_end (next bs)) [ true ↦ got [] p bs | false ↦ one_order (orders_from turns) p bs ]) (orders_from (suc turns)) same
    (local_choice at_end (λ p bs. got [] p bs) (one_order (orders_from turns)) (local_got []) (one_order_local (orders_from turns) (orders_local turns)))
  where
    turn : Bool → ℕ → List ℕ → Got (List Order)
    turn t p bs = elim t [ true ↦ got [] p bs | false ↦ one_order (orders_from turns) p bs ]

    same : (p : ℕ) (bs : List ℕ) → turn (at_end (next bs)) p bs ≡ orders_from (suc turns) p bs
    same p [] = refl
    same p (b ∷ bs) = ap (λ t. turn t p (b ∷ bs)) (not_at_end b bs)

-- Turns enough are as good as any others.
turns_same : (t u p : ℕ) (bs : List ℕ) → length bs ≤ t → length bs ≤ u → orders_from t p bs ≡ orders_from u p bs
turns_same t u p [] h k = refl
turns_same zero u p (b ∷ bs) h k = absurd (omega arith)
turns_same (suc t) zero p (b ∷ bs) h k = absurd (omega arith)
turns_same (suc t) (suc u) p (b ∷ bs) h k = one (follow (opening ∷ []) p (b ∷ bs)) refl (turns_same t u)
  where
    first : ℕ → List ℕ → ℕ → List ℕ → Got (List Order)
    first t ns q rest = and_then (order_from q rest) (λ o q rest. and_then (orders_from t q rest) (λ os q rest. got (o ∷ os) q rest))

    then : ℕ → Order → ℕ → List ℕ → Got (List Order)
    then t o q rest = and_then (orders_from t q rest) (λ os q rest. got (o ∷ os) q rest)

    two :
        (q : ℕ) (rest : List ℕ) → length (b ∷ bs) ≡ 1 + length rest → (g : Got Order) → order_from q rest ≡ g
        → ((p : ℕ) (bs : List ℕ) → length bs ≤ t → length bs ≤ u → orders_from t p bs ≡ orders_from u p bs) → and_then g (then t) ≡ and_then g (then u)
    two q rest n (got o m left) e ih =
        let s = order_sound q rest o m left e in
        let x = length-append (filled (an_order (verb o)) (numbers o)) left in
        let y = ap length s.took.splits in
        ap (λ g. and_then g (λ os q rest. got (o ∷ os) q rest)) (ih m left (omega (arith, x, y, n, h)) (omega (arith, x, y, n, k)))
    two q rest n (fault i j s) e ih = refl

    one :
        (g : Got (List ℕ)) → follow (opening ∷ []) p (b ∷ bs) ≡ g
        → ((p : ℕ) (bs : List ℕ) → length bs ≤ t → length bs ≤ u → orders_from t p bs ≡ orders_from u p bs) → and_then g (first t) ≡ and_then g (first u)
    one (got ns q rest) e ih =
        let f = follow_sound (opening ∷ []) p (b ∷ bs) ns q rest e in
        two q rest (omega (arith, ap length f.took.splits)) (order_from q rest) refl ih
    one (fault i j s) e ih = refl

all_orders : ℕ → List ℕ → Got (List Order)
all_orders p bs = orders_from (length bs) p bs

-- Two fronts of one list that are equally long are equal.
same_front : (x y u v : List ℕ) → x ++ y ≡ u ++ v → length x ≡ length u → (x ≡ u) × (y ≡ v)
same_front x y u v e l =
    let front : x ≡ u = sym (take_at x y (length x) refl) ∙ ap (take (length x)) e ∙ take_at u v (length x) (sym l) in
    (front, append_cancel_left u y v (ap (λ z. z ++ y) (sym front) ∙ e))

all_orders_local : Local all_orders
unfolding all_orders
all_orders_local =
    record {
      gots =
          λ p bs os q rest e.
          let s = orders_sound (length bs) p bs os q rest (le_refl (length bs)) e in
          record {
            over = orders_text os;
            is =
                record {
                  splits = s.took.splits;
                  place = s.took.place;
                  again =
                      λ z h.
                      let none : z ≡ [] = end_empty z (h ∙ ap next s.done) in
                      ap (λ y. all_orders p (orders_text os ++ y)) none ∙ ap (all_orders p) (append-nil (orders_text os))
                      ∙ orders_complete os (length (orders_text os)) p q s.short (le_refl (length (orders_text os))) s.took.place
                      ∙ ap (λ y. got os q y) (sym none);
                  same =
                      λ z h.
                      let none : z ≡ [] = end_empty z (h ∙ ap next s.done) in
                      ap (λ y. next (orders_text os ++ y)) (none ∙ sym s.done) ∙ ap next (sym s.took.splits);
                  marks = ((orders_local (length bs)).gots p bs os q rest e).is.marks;
                };
          };
      faults =
          λ p bs l c q e small.
          let u = (orders_local (length bs)).faults p bs l c q e small in
          record {
            over = u.over;
            left = u.left;
            is =
                again_as all_orders p bs u.over u.left q (λ z. fault l c q) u.is
                (λ z h. retry p bs l c q e small u.over u.left u.is.splits u.is.place z h);
          };
    }
  where
    retry :
        (p : ℕ) (bs : List ℕ) (l c q : ℕ) → orders_from (length bs) p bs ≡ fault l c q → l ≤ 2 → (x y : List ℕ) → bs ≡ x ++ y → q ≡ p + length x
        → (z : List ℕ) → next z ≡ next y → orders_from (length (x ++ z)) p (x ++ z) ≡ fault l c q
    retry p bs l c q e small x y s at z h =
        let most : ℕ = length bs + length (x ++ z) in
        let u =
        (orders_local most).faults p bs l c q (turns_same most (length bs) p bs (omega arith) (omega arith) ∙ e) small
        in
        let same = same_front u.over u.left x y (sym u.is.splits ∙ s) (omega (arith, u.is.place, at)) in
        turns_same (length (x ++ z)) most p (x ++ z) (omega arith) (omega arith) ∙ ap (λ w. orders_from most p (w ++ z)) (sym same.0)
        ∙ u.is.again z (h ∙ ap next (sym same.1))

body_local : (n s g : ℕ) → Local (body n s g)
unfolding all_orders
body_local n s g =
    local_then (lines_from n 0 8192)
    (λ css q rest. and_then (follow (estimates_line n) q rest) (λ hs q rest. and_then (all_orders q rest) (λ os q rest. got (doc n s g css hs os) q rest)))
    (lines_local n 0 8192)
    (λ css.
    local_then (follow (estimates_line n)) (λ hs q rest. and_then (all_orders q rest) (λ os q rest. got (doc n s g css hs os) q rest))
    (follow_local (estimates_line n))
    (λ hs. local_then all_orders (λ os q rest. got (doc n s g css hs os) q rest) all_orders_local (λ os. local_got (doc n s g css hs os))))

after_head_local : (ns : List ℕ) → Local (after_head ns)
unfolding after_head
after_head_local ns = go (counts (get_or ns 0 0))
  where
    go : (t : Bool) → Local (λ q rest. by_count ns q rest t)
    go true = body_local (get_or ns 0 0) (get_or ns 1 0) (get_or ns 2 0)
    go false = local_third

document_local : Local (λ p text. and_then (follow first_line p text) after_head)
document_local = local_then (follow first_line) after_head (follow_local first_line) after_head_local

-- A fault of the document stays where the same mark stands behind the same bytes.
pub document_fault :
    (text other : List ℕ) (l c p : ℕ)
    → document text ≡ fault l c p → l ≤ 2 → take p other ≡ take p text → next (drop p other) ≡ next (drop p text) → document other ≡ fault l c p
unfolding after_head
document_fault text other l c p e small front mark =
    let u = document_local.faults 0 text l c p e small in
    let x = u.over in
    let y = u.left in
    let long : length x ≡ p = omega (arith, u.is.place) in
    let before : take p other ≡ x = front ∙ ap (take p) u.is.splits ∙ take_at x y p long in
    let behind : drop p text ≡ y = ap (drop p) u.is.splits ∙ drop_at x y p long in
    let whole : other ≡ x ++ drop p other = sym (take-append-drop p other) ∙ ap (λ z. z ++ drop p other) before in
    ap document whole ∙ u.is.again (drop p other) (mark ∙ ap next behind)

-- The place of such a fault is where a mark begins.
pub document_starts : (text : List ℕ) (l c p : ℕ) → document text ≡ fault l c p → l ≤ 2 → Starts text p
unfolding after_head
document_starts text l c p e small = let u = document_local.faults 0 text l c p e small in go 0 text p u.left refl at_first u.is.marks
  where
    go : (q : ℕ) (bs : List ℕ) (r : ℕ) (rest : List ℕ) → bs ≡ drop q text → Starts text q → Steps q bs r rest → Starts text r
    go q bs r rest h s (no_step q1 b1 r1 t1 k j) = let P : ℕ → Type 0 = λ x. Starts text x in subst P k s
    go q bs r rest h s (a_step q1 b1 r1 t1 t) =
        let P : List ℕ → Type 0 = λ x. Starts text (q + width x) in
        go (q + width bs) (drop (width bs) bs) r rest (ap (drop (width bs)) h ∙ drop-drop (width bs) q text) (subst P (sym h) (at_next q s)) t

not_accepted : {A : Type 0} (l c p : ℕ) (d : Document) → accepted d ≡ refused l c p → A
not_accepted l c p d e = let z : ◌≡◌ {A = ℕ} 0 1 = cc in apart z

pub faults_are_real : FaultsAreReal
faults_are_real text other l c p says small front mark d h = by (refusal text l c p says)
  where
    short : length other ≤ 60000
    short = elim (cases_lt 60000 (length other)) [ inl n ↦ not_accepted 2 4 60000 d (subst (λ g. Concludes g (accepted d)) (parsed_long other n) h) | inr n ↦ n ]

    by : Refusal text l c p → ⊥
    by (checked x k a w) = omega arith
    by (stopped k e) =
        let again = document_fault text other l c p e small front mark in
        not_accepted l c p d (subst (λ g. Concludes g (accepted d)) (parsed_short other short ∙ again) h)
    by (long n a b m) =
        let few : length other ≤ p = omega (arith, short, m) in
        let none : drop p text ≡ [] = end_empty (drop p text) (sym mark ∙ ap next (drop_all p other few)) in
        omega (arith, ap length (take-append-drop p text), length-append (take p text) (drop p text), ap length none, ap length front, n, m, length-take p other)

pub written_once : WrittenOnce
written_once d e h k same =
    let g : got d (length (written d)) [] ≡ got e (length (written e)) [] = sym (document_complete d h) ∙ ap document same ∙ document_complete e k in
    cc

pub verdict_once : VerdictOnce
verdict_once text v w = go (parsed text) v w
  where
    go : (g : Got Document) (v w : Verdict) → Concludes g v → Concludes g w → v ≡ w
    go (got d p bs) (accepted a) (accepted b) h k = ap accepted (h.0 ∙ sym k.0)
    go (got d p bs) (accepted a) (refused l c e) h k = absurd (h.1 c e k.1.is)
    go (got d p bs) (refused l c e) (accepted b) h k = absurd (k.1 c e h.1.is)
    go (got d p bs) (refused l c e) (refused i j f) h k =
        let order : (c ≡ j) × (e ≡ f) =
        elim (h.1.least j f k.1.is) [
          | inl x ↦ elim (k.1.least c e h.1.is) [ inl y ↦ absurd (omega arith) | inr y ↦ absurd (omega arith) ]
          | inr x ↦ elim (k.1.least c e h.1.is) [ inl y ↦ absurd (omega arith) | inr y ↦ (x.0, omega arith) ]
        ]
        in
        ap (λ z. refused z c e) (h.0 ∙ sym k.0) ∙ ap (λ z. refused i z e) order.0 ∙ ap (λ z. refused i j z) order.1
    go (fault l c p) v w h k = h ∙ sym k
