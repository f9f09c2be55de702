-- What a reading comes to hangs on nothing behind the mark that it stopped at.
use Rattle.std.proofs.Common.{◌≡◌, ℕ, ◌+◌, ◌<◌, ◌≤◌, Bool, true, false, cond, eqb, List, [], ◌∷◌, ◌++◌, length, get_or, take, drop, sym, refl, ap, ◌∙◌, subst, add-zero, one-add, arith}
use Rattle.std.specs.List.{prefix_len}
use Rattle.std.proofs.lemmas.List.{append_assoc, length-append, take-append-drop, length-take-le, drop_at}
use Rattle.std.proofs.lemmas.List.Sums.{prefix_len-le-length}
use Rattle.text.specs.Marks.{Mark, sign, word, number, end, bad, is_letter, is_digit, kind, mark_of, width_of, next, width, figures}
use Rattle.text.specs.declared.Kind.{Kind}
use Rattle.text.specs.declared.Kind.TheVariants.{Single, Letter, Digit, Outside}
use Rattle.text.specs.Forms.{Form, meets, keeps, Got, got, fault, and_then, unwanted, follow}
use Rattle.text.proofs.Runs.{Every, Stops, stops_first, first_stops, front_passes, leading_some, kind_letter, kind_digit, letter_kind, digit_kind}
use Rattle.text.proofs.Marks.{Shows, end_empty, figures_as, shows_word, shows_figures}
use Rattle.text.proofs.Forms.{apart, went, goes, never_got, unwanted_place, before, behind, where_fault}

-- The mark in hand tells whether a letter, or a digit, stands first.
is_word : Mark → Bool
is_word m = elim m [ sign b ↦ false | word w ↦ true | number n ↦ false | end ↦ false | bad c ↦ false ]

is_figure : Mark → Bool
is_figure m = elim m [ sign b ↦ false | word w ↦ false | number n ↦ true | end ↦ false | bad c ↦ eqb c 2 ]

-- What passes only bytes of one kind passes none of another.
not_kind : (p : ℕ → Bool) (own k : Kind) → ((b : ℕ) → p b ≡ true → kind b ≡ own) → (b : ℕ) → kind b ≡ k → (k ≡ own → ⊥) → p b ≡ false
not_kind p own k only b e h = go (p b) refl
  where
    go : (t : Bool) → p b ≡ t → t ≡ false
    go true l = absurd (h (sym e ∙ only b l))
    go false l = refl

word_first : (bs : List ℕ) → is_word (next bs) ≡ is_letter (get_or bs 0 0)
unfolding is_word
word_first [] = refl
word_first (b ∷ bs) = go (kind b) refl
  where
    other : (k : Kind) → kind b ≡ k → (k ≡ Letter → ⊥) → false ≡ is_letter b
    other k e h = sym (not_kind is_letter Letter k kind_letter b e h)

    go : (k : Kind) → kind b ≡ k → is_word (mark_of k b (b ∷ bs)) ≡ is_letter b
    go Single e = other Single e (λ z. let w : ◌≡◌ {A = ℕ} 0 1 = cc in apart w)
    go Letter e = sym (letter_kind b e)
    go Digit e =
        figures_as is_word false (take (prefix_len is_digit (b ∷ bs)) (b ∷ bs)) (λ n. refl) refl
        ∙ other Digit e (λ z. let w : ◌≡◌ {A = ℕ} 0 1 = cc in apart w)
    go Outside e = other Outside e (λ z. let w : ◌≡◌ {A = ℕ} 0 1 = cc in apart w)

figure_first : (bs : List ℕ) → is_figure (next bs) ≡ is_digit (get_or bs 0 0)
unfolding is_figure
figure_first [] = refl
figure_first (b ∷ bs) = go (kind b) refl
  where
    other : (k : Kind) → kind b ≡ k → (k ≡ Digit → ⊥) → false ≡ is_digit b
    other k e h = sym (not_kind is_digit Digit k kind_digit b e h)

    go : (k : Kind) → kind b ≡ k → is_figure (mark_of k b (b ∷ bs)) ≡ is_digit b
    go Single e = other Single e (λ z. let w : ◌≡◌ {A = ℕ} 0 1 = cc in apart w)
    go Letter e = other Letter e (λ z. let w : ◌≡◌ {A = ℕ} 0 1 = cc in apart w)
    go Digit e = figures_as is_figure true (take (prefix_len is_digit (b ∷ bs)) (b ∷ bs)) (λ n. refl) refl ∙ sym (digit_kind b e)
    go Outside e = other Outside e (λ z. let w : ◌≡◌ {A = ℕ} 0 1 = cc in apart w)

-- Behind the longest run stands something else.
pub leading_stops : (p : ℕ → Bool) (bs : List ℕ) → Stops p (drop (prefix_len p bs) bs)
leading_stops p [] = tt
leading_stops p (x ∷ xs) = go (p x) refl (leading_stops p xs)
  where
    go : (t : Bool) → p x ≡ t → Stops p (drop (prefix_len p xs) xs) → Stops p (drop (cond t (1 + prefix_len p xs) 0) (x ∷ xs))
    go true e h = rw one-add h
    go false e h = e

width_fits : (bs : List ℕ) → width bs ≤ length bs
width_fits [] = omega arith
width_fits (b ∷ bs) = go (kind b)
  where
    go : (k : Kind) → width_of k (b ∷ bs) ≤ length (b ∷ bs)
    go Single = omega arith
    go Letter = prefix_len-le-length is_letter (b ∷ bs)
    go Digit = prefix_len-le-length is_digit (b ∷ bs)
    go Outside = omega arith

-- The bytes x with z behind them have the mark m in hand, which takes n bytes.
record Stays (x z : List ℕ) (m : Mark) (n : ℕ) : Type 0 where
  is : next (x ++ z) ≡ m
  wide : width (x ++ z) ≡ n

-- A run stays itself where what stands behind it does not go on with it.
run_stays :
    (p : ℕ → Bool) (is : Mark → Bool) (m : List ℕ → Mark)
    → p 0 ≡ false → ((bs : List ℕ) → is (next bs) ≡ p (get_or bs 0 0))
    → ((w rest : List ℕ) → 0 < length w → Every p w → Stops p rest → Shows (m w) w rest)
    → (b : ℕ) (bs z : List ℕ) → p b ≡ true → next z ≡ next (drop (prefix_len p (b ∷ bs)) (b ∷ bs))
    → Stays (take (prefix_len p (b ∷ bs)) (b ∷ bs)) z (m (take (prefix_len p (b ∷ bs)) (b ∷ bs))) (prefix_len p (b ∷ bs))
run_stays p is m none tells shows b bs z e h =
    let n = prefix_len p (b ∷ bs) in
    let long = length-take-le n (b ∷ bs) (prefix_len-le-length p (b ∷ bs)) in
    let first : p (get_or z 0 0) ≡ false =
    sym (tells z) ∙ ap is h ∙ tells (drop n (b ∷ bs)) ∙ stops_first p none (drop n (b ∷ bs)) (leading_stops p (b ∷ bs))
    in
    let t = shows (take n (b ∷ bs)) z (omega (arith, long, leading_some p b bs e)) (front_passes p (b ∷ bs)) (first_stops p z first) in
    record { is = t.is; wide = t.wide ∙ long }

-- A mark with the same mark behind it stays itself.
stays : (bs z : List ℕ) → next z ≡ next (drop (width bs) bs) → Stays (take (width bs) bs) z (next bs) (width bs)
stays [] z h = let e = end_empty z h in record { is = h; wide = ap width e }
stays (b ∷ bs) z h = go (kind b) refl h
  where
    go :
        (k : Kind) → kind b ≡ k → next z ≡ next (drop (width_of k (b ∷ bs)) (b ∷ bs))
        → Stays (take (width_of k (b ∷ bs)) (b ∷ bs)) z (mark_of k b (b ∷ bs)) (width_of k (b ∷ bs))
    go Single e h = record { is = rw e refl; wide = rw e refl }
    go Letter e h = run_stays is_letter is_word word refl word_first shows_word b bs z (letter_kind b e) h
    go Digit e h = run_stays is_digit is_figure figures refl figure_first shows_figures b bs z (digit_kind b e) h
    go Outside e h = record { is = rw e refl; wide = rw e refl }

-- From place p with bs left, mark by mark, to place q with rest left.
pub data Steps : ℕ → List ℕ → ℕ → List ℕ → Type 0 where
  no_step : (p : ℕ) (bs : List ℕ) (q : ℕ) (rest : List ℕ) → p ≡ q → bs ≡ rest → Steps p bs q rest
  a_step : (p : ℕ) (bs : List ℕ) (q : ℕ) (rest : List ℕ) → Steps (p + width bs) (drop (width bs) bs) q rest → Steps p bs q rest

steps_both : (p : ℕ) (bs : List ℕ) (m : ℕ) (mid : List ℕ) (q : ℕ) (rest : List ℕ) → Steps p bs m mid → Steps m mid q rest → Steps p bs q rest
steps_both p bs m mid q rest (no_step p1 b1 m1 d1 e h) t =
    let P : ℕ → Type 0 = λ x. Steps x bs q rest in
    let Q : List ℕ → Type 0 = λ x. Steps m x q rest in
    subst P (sym e) (subst Q (sym h) t)
steps_both p bs m mid q rest (a_step p1 b1 m1 d1 s) t = a_step p bs q rest (steps_both (p + width bs) (drop (width bs) bs) m mid q rest s t)

-- From place p with bs left, the reading r went over the bytes x, up to place q with y left; and it does so again, to the same end, with
-- anything in place of y that begins with the same mark.
pub record Again {A : Type 0} (r : ℕ → List ℕ → Got A) (p : ℕ) (bs x y : List ℕ) (q : ℕ) (out : List ℕ → Got A) : Type 0 where
  pub splits : bs ≡ x ++ y
  pub place : q ≡ p + length x
  pub again : (z : List ℕ) → next z ≡ next y → r p (x ++ z) ≡ out z
  pub same : (z : List ℕ) → next z ≡ next y → next (x ++ z) ≡ next bs
  pub marks : Steps p bs q y

pub record GotAgain {A : Type 0} (r : ℕ → List ℕ → Got A) (p : ℕ) (bs : List ℕ) (a : A) (q : ℕ) (rest : List ℕ) : Type 0 where
  pub over : List ℕ
  pub is : Again r p bs over rest q (λ z. got a q z)

pub record FaultAgain {A : Type 0} (r : ℕ → List ℕ → Got A) (p : ℕ) (bs : List ℕ) (l c q : ℕ) : Type 0 where
  pub over : List ℕ
  pub left : List ℕ
  pub is : Again r p bs over left q (λ z. fault l c q)

-- A reading that looks no further than the mark that it stops at. Layer 3 tells no place in the text.
pub record Local {A : Type 0} (r : ℕ → List ℕ → Got A) : Type 0 where
  pub gots : (p : ℕ) (bs : List ℕ) (a : A) (q : ℕ) (rest : List ℕ) → r p bs ≡ got a q rest → GotAgain r p bs a q rest
  pub faults : (p : ℕ) (bs : List ℕ) (l c q : ℕ) → r p bs ≡ fault l c q → l ≤ 2 → FaultAgain r p bs l c q

pub local_got : {A : Type 0} (a : A) → Local (λ p bs. got a p bs)
local_got a =
    record {
      gots =
          λ p bs b q rest e.
          let same : a ≡ b = cc in
          let here : p ≡ q = cc in
          let left : bs ≡ rest = cc in
          record {
            over = [];
            is =
                record {
                  splits = left;
                  place = omega arith;
                  again = λ z h. ap (λ x. got x p z) same ∙ ap (λ x. got b x z) here;
                  same = λ z h. h ∙ ap next (sym left);
                  marks = no_step p bs q rest here left;
                };
          };
      faults = λ p bs l c q e h. let w : ◌≡◌ {A = ℕ} 0 1 = cc in apart w;
    }

pub local_third : {A : Type 0} → Local {A = A} (λ p bs. fault 3 5 0)
local_third =
    record {
      gots = λ p bs b q rest e. let w : ◌≡◌ {A = ℕ} 0 1 = cc in apart w;
      faults = λ p bs l c q e h. let w : 3 ≡ l = cc in absurd (omega arith);
    }

-- Another reading goes over the same bytes.
pub again_as :
    {A B : Type 0} {r : ℕ → List ℕ → Got A} {out : List ℕ → Got A} (s : ℕ → List ℕ → Got B) (p : ℕ) (bs x y : List ℕ) (q : ℕ) (new : List ℕ → Got B)
    → Again r p bs x y q out → ((z : List ℕ) → next z ≡ next y → s p (x ++ z) ≡ new z) → Again s p bs x y q new
again_as s p bs x y q new h again = record { splits = h.splits; place = h.place; again = again; same = h.same; marks = h.marks }

pub local_same : {A : Type 0} (r s : ℕ → List ℕ → Got A) → ((p : ℕ) (bs : List ℕ) → r p bs ≡ s p bs) → Local r → Local s
local_same r s e h =
    record {
      gots =
          λ p bs b q rest f.
          let g = h.gots p bs b q rest (e p bs ∙ f) in
          record {
            over = g.over;
            is = again_as s p bs g.over rest q (λ z. got b q z) g.is (λ z k. sym (e p (g.over ++ z)) ∙ g.is.again z k);
          };
      faults =
          λ p bs l c q f small.
          let g = h.faults p bs l c q (e p bs ∙ f) small in
          record {
            over = g.over;
            left = g.left;
            is = again_as s p bs g.over g.left q (λ z. fault l c q) g.is (λ z k. sym (e p (g.over ++ z)) ∙ g.is.again z k);
          };
    }

-- One after another.
join :
    {A B : Type 0} (r : ℕ → List ℕ → Got A) (k : A → ℕ → List ℕ → Got B) (p : ℕ) (bs x : List ℕ) (a : A) (m : ℕ) (mid y left : List ℕ) (q : ℕ)
    (out : List ℕ → Got B)
    → Again r p bs x mid m (λ z. got a m z) → Again (k a) m mid y left q out → Again (λ p bs. and_then (r p bs) k) p bs (x ++ y) left q out
join r k p bs x a m mid y left q out f g =
    record {
      splits = f.splits ∙ ap (λ z. x ++ z) g.splits ∙ sym (append_assoc x y left);
      place = omega (arith, f.place, g.place, length-append x y);
      again =
          λ z h.
          goes (r p ((x ++ y) ++ z)) k a m (y ++ z) (out z) (ap (r p) (append_assoc x y z) ∙ f.again (y ++ z) (g.same z h)) (g.again z h);
      same = λ z h. ap next (append_assoc x y z) ∙ f.same (y ++ z) (g.same z h);
      marks = steps_both p bs m mid q left f.marks g.marks;
    }

pub local_then :
    {A B : Type 0} (r : ℕ → List ℕ → Got A) (k : A → ℕ → List ℕ → Got B) → Local r → ((a : A) → Local (k a)) → Local (λ p bs. and_then (r p bs) k)
local_then {A} {B} r k f g =
    record {
      gots =
          λ p bs b q rest e.
          let w = went (r p bs) k b q rest e in
          let u = f.gots p bs w.thing w.place w.left w.first in
          let v = (g w.thing).gots w.place w.left b q rest w.second in
          record {
            over = u.over ++ v.over;
            is = join r k p bs u.over w.thing w.place w.left v.over rest q (λ z. got b q z) u.is v.is;
          };
      faults =
          λ p bs l c q e small.
          elim (where_fault (r p bs) k l c q e) [
            | before h ↦
                let u = f.faults p bs l c q h small in
                record {
                  over = u.over;
                  left = u.left;
                  is =
                      again_as (λ p bs. and_then (r p bs) k) p bs u.over u.left q (λ z. fault l c q) u.is
                      (λ z t. ap (λ x. and_then x k) (u.is.again z t));
                }
            | behind a m mid h t ↦
                let u = f.gots p bs a m mid h in
                let v = (g a).faults m mid l c q t small in
                record {
                  over = u.over ++ v.over;
                  left = v.left;
                  is = join r k p bs u.over a m mid v.over v.left q (λ z. fault l c q) u.is v.is;
                }
          ];
    }

-- A choice by the mark in hand.
pub local_by : {X A : Type 0} (t : Mark → X) (r : X → ℕ → List ℕ → Got A) → ((x : X) → Local (r x)) → Local (λ p bs. r (t (next bs)) p bs)
local_by {X} {A} t r f =
    record {
      gots =
          λ p bs a q rest e.
          let u = (f (t (next bs))).gots p bs a q rest e in
          record { over = u.over; is = carry p bs u.over rest q (λ z. got a q z) u.is };
      faults =
          λ p bs l c q e small.
          let u = (f (t (next bs))).faults p bs l c q e small in
          record { over = u.over; left = u.left; is = carry p bs u.over u.left q (λ z. fault l c q) u.is };
    }
  where
    carry :
        (p : ℕ) (bs x y : List ℕ) (q : ℕ) (out : List ℕ → Got A)
        → Again (r (t (next bs))) p bs x y q out → Again (λ p bs. r (t (next bs)) p bs) p bs x y q out
    carry p bs x y q out h =
        again_as (λ p bs. r (t (next bs)) p bs) p bs x y q out h (λ z k. ap (λ v. r v p (x ++ z)) (ap t (h.same z k)) ∙ h.again z k)

pub local_choice :
    {A : Type 0} (t : Mark → Bool) (r s : ℕ → List ℕ → Got A)
    → Local r → Local s → Local (λ p bs. elim (t (next bs)) [ true ↦ r p bs | false ↦ s p bs ])
local_choice {A} t r s f g = local_by t pick each
  where
    pick : Bool → ℕ → List ℕ → Got A
    pick b p bs = elim b [ true ↦ r p bs | false ↦ s p bs ]

    each : (b : Bool) → Local (pick b)
    each true = f
    each false = g

-- A mark that is not wanted.
pub local_unwanted : {A : Type 0} → Local {A = A} (λ p bs. unwanted (next bs) p)
local_unwanted {A} =
    record {
      gots = λ p bs b q rest e. absurd (never_got (next bs) p b q rest e);
      faults =
          λ p bs l c q e small.
          record {
            over = [];
            left = bs;
            is =
                record {
                  splits = refl;
                  place = unwanted_place (next bs) p l c q e ∙ sym (add-zero p);
                  again = λ z h. ap (λ m. unwanted m p) h ∙ e;
                  same = λ z h. h;
                  marks = no_step p bs q bs (sym (unwanted_place (next bs) p l c q e)) refl;
                };
          };
    }

-- The mark in hand.
here : ℕ → List ℕ → Got Mark
here p bs = got (next bs) (p + width bs) (drop (width bs) bs)

local_here : Local here
unfolding here
local_here =
    record {
      gots =
          λ p bs m q rest e.
          let mark : next bs ≡ m = cc in
          let place : p + width bs ≡ q = cc in
          let left : drop (width bs) bs ≡ rest = cc in
          let long = length-take-le (width bs) bs (width_fits bs) in
          record {
            over = take (width bs) bs;
            is =
                record {
                  splits = sym (take-append-drop (width bs) bs) ∙ ap (λ z. take (width bs) bs ++ z) left;
                  place = omega (arith, long, place);
                  again =
                      λ z h.
                      let s = stays bs z (h ∙ ap next (sym left)) in
                      let x = take (width bs) bs in
                      ap (λ k. got (next (x ++ z)) (p + k) (drop k (x ++ z))) s.wide
                      ∙ ap (λ k. got k (p + width bs) (drop (width bs) (x ++ z))) (s.is ∙ mark)
                      ∙ ap (λ k. got m k (drop (width bs) (x ++ z))) place
                      ∙ ap (λ k. got m q k) (drop_at x z (width bs) long);
                  same = λ z h. (stays bs z (h ∙ ap next (sym left))).is;
                  marks = a_step p bs q rest (no_step (p + width bs) (drop (width bs) bs) q rest place left);
                };
          };
      faults = λ p bs l c q e small. let w : ◌≡◌ {A = ℕ} 0 1 = cc in apart w;
    }

pub follow_local : (f : Form) → Local (follow f)
unfolding here
follow_local [] = local_got []
follow_local (w ∷ f) =
    local_same
    (λ p bs.
    elim (meets w (next bs)) [
      | true ↦ and_then (here p bs) (λ m q rest. and_then (follow f q rest) (λ ns q rest. got (keeps w m ns) q rest))
      | false ↦ unwanted (next bs) p
    ])
    (follow (w ∷ f))
    (λ p bs. refl)
    (local_choice (meets w) (λ p bs. and_then (here p bs) (λ m q rest. and_then (follow f q rest) (λ ns q rest. got (keeps w m ns) q rest)))
    (λ p bs. unwanted (next bs) p)
    (local_then here (λ m q rest. and_then (follow f q rest) (λ ns q rest. got (keeps w m ns) q rest)) local_here
    (λ m. local_then (follow f) (λ ns q rest. got (keeps w m ns) q rest) (follow_local f) (λ ns. local_got (keeps w m ns))))
    local_unwanted)
