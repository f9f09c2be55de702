-- A mark in hand is how it is written; and what is written is the mark in hand.
use Rattle.std.proofs.Common.{◌≡◌, ℕ, ◌<◌, ◌≤◌, Bool, true, false, cond, ◌&&◌, eqb, ltb, List, [], ◌∷◌, ◌++◌, length, get_or, take, drop, decimal, sym, refl, ap, ◌∙◌, subst, inl, inr, arith}
use Rattle.std.specs.List.{prefix_len}
use Rattle.std.specs.Str.Parse.{digits_value}
use Rattle.std.proofs.lemmas.List.{take-append-drop, length-take-le, take_at}
use Rattle.std.proofs.lemmas.List.Sums.{prefix_len-le-length}
use Rattle.std.proofs.lemmas.Bool.{or_parts, ltb-false, or_from, and_right, le-ltb, ne_eqb, cases_lt, cond-false}
use Rattle.std.proofs.lemmas.Str.Parse.{digits_value_short}
use Rattle.std.proofs.lemmas.Fmt.{decimal-digits_value, digits_decimal, digits_value-decimal, length-decimal-le, decimal_nonempty, first_decimal, decimal_digit}
use Rattle.std.proofs.lemmas.Bool.Decides.{nat_tests as tells}
use Rattle.text.specs.Marks.{Mark, sign, word, number, end, bad, is_letter, is_digit, is_single, kind, mark_of, width_of, next, width, figures, badly_written}
use Rattle.text.specs.declared.Kind.{Kind}
use Rattle.text.specs.declared.Kind.TheVariants.{Single, Letter, Digit, Outside}
use Rattle.text.specs.Document.{Short}
use Rattle.text.proofs.Runs.{Every, Stops, front_passes, leading_some, leading_run, kind_letter, kind_digit, kind_single, digit_kind, own}

-- The bytes bs begin with x, which takes n of them.
pub record Begins (x : List ℕ) (n : ℕ) (bs : List ℕ) : Type 0 where
  pub splits : bs ≡ x ++ drop n bs
  pub long : n ≡ length x

-- How a mark of n bytes stands in front of bs.
abbrev pub Stands : Mark → ℕ → List ℕ → Type 0
Stands (sign b) n bs = Begins (b ∷ []) n bs
Stands (word w) n bs = Begins w n bs
Stands (number k) n bs = Short k × Begins (decimal k) n bs
Stands end n bs = bs ≡ []
Stands (bad c) n bs = Unit {0}

taken : (n : ℕ) (bs : List ℕ) → n ≤ length bs → Begins (take n bs) n bs
taken n bs h = record { splits = sym (take-append-drop n bs); long = sym (length-take-le n bs h) }

good_figures : (ds : List ℕ) (n : ℕ) (bs : List ℕ) → Every is_digit ds → 0 < length ds → Begins ds n bs → Stands (figures ds) n bs
good_figures ds n bs d some b = go (badly_written ds) refl
  where
    go : (t : Bool) → badly_written ds ≡ t → Stands (cond t (bad 2) (number (digits_value 10 ds))) n bs
    go true e = tt
    go false e =
        let parts = or_parts (ltb 7 (length ds)) (ltb 1 (length ds) && eqb (get_or ds 0 0) 48) e in
        let few : length ds ≤ 7 = ltb-false 7 (length ds) parts.0 in
        let short : Short (digits_value 10 ds) = digits_value_short own ds 7 d few in
        let lone : get_or ds 0 0 ≡ 48 → length ds ≡ 1 = λ z. grind (arith, tells) in
        (short, rw (decimal-digits_value own ds d some lone (omega arith)) b)

pub next_stands : (bs : List ℕ) → Stands (next bs) (width bs) bs
next_stands [] = refl
next_stands (b ∷ bs) = go (kind b) refl
  where
    go : (k : Kind) → kind b ≡ k → Stands (mark_of k b (b ∷ bs)) (width_of k (b ∷ bs)) (b ∷ bs)
    go Single e = record { splits = refl; long = refl }
    go Letter e = taken (prefix_len is_letter (b ∷ bs)) (b ∷ bs) (prefix_len-le-length is_letter (b ∷ bs))
    go Digit e =
        let n = prefix_len is_digit (b ∷ bs) in
        let t = taken n (b ∷ bs) (prefix_len-le-length is_digit (b ∷ bs)) in
        let some : 0 < n = leading_some is_digit b bs (digit_kind b e) in
        good_figures (take n (b ∷ bs)) n (b ∷ bs) (front_passes is_digit (b ∷ bs)) (omega (arith, t.long)) t
    go Outside e = tt

-- What has the mark of a byte in hand begins with that byte, and what has the end in hand is empty.
pub begins_with : (b : ℕ) (bs : List ℕ) → next bs ≡ sign b → bs ≡ b ∷ drop (width bs) bs
begins_with b bs e =
    let P : Mark → Type 0 = λ m. Stands m (width bs) bs in
    (subst P e (next_stands bs)).splits

pub end_empty : (bs : List ℕ) → next bs ≡ end → bs ≡ []
end_empty bs e =
    let P : Mark → Type 0 = λ m. Stands m (width bs) bs in
    subst P e (next_stands bs)

-- In front of bs stand the bytes x, as the mark m.
pub record Shows (m : Mark) (x rest : List ℕ) : Type 0 where
  pub is : next (x ++ rest) ≡ m
  pub wide : width (x ++ rest) ≡ length x

pub shows_sign : (b : ℕ) (rest : List ℕ) → is_single b ≡ true → Shows (sign b) (b ∷ []) rest
shows_sign b rest h = record { is = rw (kind_single b h) refl; wide = rw (kind_single b h) refl }

-- A run of bytes of one kind stands in hand whole: a word, or a run of digits, well written or not.
shows_run :
    (p : ℕ → Bool) (k : Kind) (m : List ℕ → Mark)
    → ((b : ℕ) → p b ≡ true → kind b ≡ k)
    → ((b : ℕ) (bs : List ℕ) → mark_of k b bs ≡ m (take (prefix_len p bs) bs)) → ((bs : List ℕ) → width_of k bs ≡ prefix_len p bs)
    → (w rest : List ℕ) → 0 < length w → Every p w → Stops p rest → Shows (m w) w rest
shows_run p k m tells mark wide [] rest some h s = absurd (omega arith)
shows_run p k m tells mark wide (b ∷ w) rest some h s =
    let n : prefix_len p (b ∷ w ++ rest) ≡ length (b ∷ w) = leading_run p (b ∷ w) rest h s in
    record {
      is =
          rw (tells b h.0)
          (mark b (b ∷ w ++ rest) ∙ ap (λ n. m (take n (b ∷ w ++ rest))) n ∙ ap m (take_at (b ∷ w) rest (length (b ∷ w)) refl));
      wide = rw (tells b h.0) (wide (b ∷ w ++ rest) ∙ n);
    }

pub shows_word : (w rest : List ℕ) → 0 < length w → Every is_letter w → Stops is_letter rest → Shows (word w) w rest
shows_word = shows_run is_letter Letter word kind_letter (λ b bs. refl) (λ bs. refl)

pub shows_figures : (ds rest : List ℕ) → 0 < length ds → Every is_digit ds → Stops is_digit rest → Shows (figures ds) ds rest
shows_figures = shows_run is_digit Digit figures kind_digit (λ b bs. refl) (λ bs. refl)

well_figures : (n : ℕ) → Short n → figures (decimal n) ≡ number n
well_figures n h =
    let few : length (decimal n) ≤ 7 = length-decimal-le 7 n (omega arith) h (omega arith) in
    let fine : badly_written (decimal n) ≡ false =
    elim (cases_lt 0 n) [ inl pos ↦ or_from (ltb 7 (length (decimal n))) (ltb 1 (length (decimal n)) && eqb (get_or (decimal n) 0 0) 48) (le-ltb 7 (length (decimal n)) few) (and_right (ltb 1 (length (decimal n))) (eqb (get_or (decimal n) 0 0) 48) (ne_eqb (get_or (decimal n) 0 0) 48 (λ e. let g : 48 < get_or (decimal n) 0 0 = first_decimal n pos (omega arith) in omega arith))) | inr none ↦ rw (decimal_digit n (omega arith)) refl ]
    in
    cond-false (badly_written (decimal n)) (bad 2) (number (digits_value 10 (decimal n))) fine ∙ ap number (digits_value-decimal own n (omega arith))

-- What a test says of numbers and of what is badly written, it says of a run of digits.
pub figures_as : (f : Mark → Bool) (v : Bool) (ds : List ℕ) → ((n : ℕ) → f (number n) ≡ v) → f (bad 2) ≡ v → f (figures ds) ≡ v
figures_as f v ds h k = go (badly_written ds)
  where
    go : (t : Bool) → f (cond t (bad 2) (number (digits_value 10 ds))) ≡ v
    go true = k
    go false = h (digits_value 10 ds)

pub shows_number : (n : ℕ) (rest : List ℕ) → Short n → Stops is_digit rest → Shows (number n) (decimal n) rest
shows_number n rest h s =
    let t = shows_figures (decimal n) rest (decimal_nonempty n (omega arith)) (digits_decimal own n (omega arith)) s in
    record { is = t.is ∙ well_figures n h; wide = t.wide }
