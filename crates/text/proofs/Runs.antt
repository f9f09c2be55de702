-- Runs of letters and of digits, and what a run of digits says.
use Rattle.std.proofs.Common.{◌≡◌, ℕ, ◌+◌, ◌<◌, Bool, true, false, cond, leb, List, [], ◌∷◌, ◌++◌, length, get_or, take, refl, one-add, arith}
use Rattle.std.specs.List.{prefix_len, AllByRecursion}
use Rattle.std.specs.Str.Parse.{digits_value}
use Rattle.std.proofs.lemmas.Bool.{and_parts, and_from, leb-true, le-leb}
use Rattle.std.proofs.lemmas.Bool.Decides.{nat_tests}
use Rattle.std.proofs.lemmas.Str.Parse.{IsNumeralModel, IsDigitsTest, numerals_by_value}
use Rattle.text.specs.Marks.{is_letter, is_digit, is_single, kind}
use Rattle.text.specs.declared.Kind.TheVariants.{Letter, Digit, Single}

-- Every byte passes.
abbrev pub Every : (ℕ → Bool) → List ℕ → Type 0
Every p xs = AllByRecursion (λ x. p x ≡ true) xs

-- The first byte, if there is one, does not pass.
abbrev pub Stops : (ℕ → Bool) → List ℕ → Type 0
Stops p [] = Unit {0}
Stops p (x ∷ xs) = p x ≡ false

-- Where there is no first byte, `get_or` gives 0.
pub stops_first : (p : ℕ → Bool) → p 0 ≡ false → (bs : List ℕ) → Stops p bs → p (get_or bs 0 0) ≡ false
stops_first p h [] s = h
stops_first p h (x ∷ xs) s = s

pub first_stops : (p : ℕ → Bool) (bs : List ℕ) → p (get_or bs 0 0) ≡ false → Stops p bs
first_stops p [] h = tt
first_stops p (x ∷ xs) h = h

-- The longest front passes.
pub front_passes : (p : ℕ → Bool) (xs : List ℕ) → Every p (take (prefix_len p xs) xs)
front_passes p [] = tt
front_passes p (x ∷ xs) = go (p x) refl (front_passes p xs)
  where
    go : (t : Bool) → p x ≡ t → Every p (take (prefix_len p xs) xs) → Every p (take (cond t (1 + prefix_len p xs) 0) (x ∷ xs))
    go true e h = rw one-add (e, h)
    go false e h = tt

pub leading_some : (p : ℕ → Bool) (x : ℕ) (xs : List ℕ) → p x ≡ true → 0 < prefix_len p (x ∷ xs)
leading_some p x xs e = rw e (omega arith)

-- The longest front of a run with something else behind it is the run.
pub leading_run : (p : ℕ → Bool) (w rest : List ℕ) → Every p w → Stops p rest → prefix_len p (w ++ rest) ≡ length w
leading_run p [] [] h s = refl
leading_run p [] (x ∷ xs) h s = rw s refl
leading_run p (x ∷ w) rest h s = rw h.0 (omega (arith, leading_run p w rest h.1 s))

pub kind_letter : (b : ℕ) → is_letter b ≡ true → kind b ≡ Letter
kind_letter b h = grind (arith, nat_tests)

pub kind_digit : (b : ℕ) → is_digit b ≡ true → kind b ≡ Digit
kind_digit b h = grind (arith, nat_tests)

pub kind_single : (b : ℕ) → is_single b ≡ true → kind b ≡ Single
kind_single b h = rw h refl

pub letter_kind : (b : ℕ) → kind b ≡ Letter → is_letter b ≡ true
letter_kind b h = grind (arith, nat_tests)

pub digit_kind : (b : ℕ) → kind b ≡ Digit → is_digit b ≡ true
digit_kind b h = grind (arith, nat_tests)

digit_tells : IsDigitsTest (Every is_digit)
digit_tells =
    record {
      empty = tt;
      parts = λ c cs h. let g = and_parts (leb 48 c) (leb c 57) h.0 in ((leb-true 48 c g.0, leb-true c 57 g.1), h.1);
      more = λ c cs i h. (and_from (leb 48 c) (leb c 57) (le-leb 48 c i.0) (le-leb c 57 i.1), h);
    }

pub own : IsNumeralModel (Every is_digit) (digits_value 10)
own = numerals_by_value (Every is_digit) digit_tells
