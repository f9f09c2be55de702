-- What at most seven digits write, one digit after another.
use Rattle.std.proofs.Common.{◌≡◌, ℕ, ◌+◌, ◌-◌, ◌*◌, ◌<◌, ◌≤◌, true, false, ◌&&◌, eqb, ltb, leb, List, [], ◌∷◌, length, get_or, take, take_while, Some, slice_get, sym, subst, ap, ◌∙◌, arith}
use Rattle.std.specs.List.{prefix_len}
use Rattle.std.specs.Str.Parse.{digits_value}
use Rattle.std.specs.Char.{digit_value as std_digit_value}
use Rattle.std.proofs.lemmas.Bool.{cond-false, and_parts, or_parts, leb-true, ltb-false}
use Rattle.std.proofs.lemmas.Bool.Decides.{nat_tests}
use Rattle.std.proofs.lemmas.List.{length-take-le}
use Rattle.std.proofs.lemmas.List.Folds.{length-prefix_len}
use Rattle.std.proofs.lemmas.List.Sums.{prefix_len-le-length}
use Rattle.std.proofs.ByRecursion.{All-get_or, All-take}
use Rattle.std.proofs.lemmas.Str.Parse.{digits_value_short}
use Rattle.std.proofs.lemmas.Int.Digits.{digits_value_more}
use Rattle.text.specs.declared.Kind.TheVariants.{Digit}
use Rattle.text.specs.Marks.{kind, is_digit, number, bad, figures, mark_of, width_of, next, width, badly_written}
use Rattle.text.proofs.Runs.{Every, front_passes, own}
use Rattle.text.proofs.Forms.{apart}
use Rattle.reader.specs.Meaning.{Figures}

pub record DigitAt (ds : List ℕ) (i : ℕ) : Type 0 where
  pub low : 48 ≤ get_or ds i 0
  pub high : get_or ds i 0 ≤ 57
  pub so_far : digits_value 10 (take i ds) < 10000000
  pub more : digits_value 10 (take (i + 1) ds) ≡ digits_value 10 (take i ds) * 10 + (get_or ds i 0 - 48)

digit_value : (b : ℕ) → 48 ≤ b → b ≤ 57 → std_digit_value b ≡ b - 48
digit_value b low high = grind (arith, nat_tests)

pub digit_at : (ds : List ℕ) (i : ℕ) → Figures ds → i < length ds → DigitAt ds i
digit_at ds i f h =
    let b = get_or ds i 0 in
    let parts = and_parts (leb 48 b) (leb b 57) (All-get_or (λ b. is_digit b ≡ true) ds i 0 h f.all) in
    let low = leb-true 48 b parts.0 in
    let high = leb-true b 57 parts.1 in
    record {
      low = low;
      high = high;
      so_far = digits_value_short own (take i ds) 7 (All-take (λ b. is_digit b ≡ true) i ds f.all) (omega (arith, length-take-le i ds (omega arith), f.few));
      more = digits_value_more 10 ds i h ∙ ap (λ n. digits_value 10 (take i ds) * 10 + n) (digit_value b low high);
    }

pub well_written : (ds : List ℕ) → Every is_digit ds → badly_written ds ≡ false → Figures ds
well_written ds all e =
    record { all = all; few = ltb-false 7 (length ds) (or_parts (ltb 7 (length ds)) (ltb 1 (length ds) && eqb (get_or ds 0 0) 48) e).0 }

-- What stands in front of bytes that begin with a digit, where the run of digits is not badly written.
pub record FigureFront (bs ds : List ℕ) : Type 0 where
  pub is : number (digits_value 10 ds) ≡ next bs
  pub wide : length ds ≡ width bs
  pub few : length ds ≤ length bs
  pub written : Figures ds

pub figures_front :
    (bs ds : List ℕ) (b : ℕ) → Some b ≡ slice_get bs 0 → kind b ≡ Digit → ds ≡ take_while is_digit bs → badly_written ds ≡ false → FigureFront bs ds
figures_front [] ds b s k t w = let none : ◌≡◌ {A = ℕ} 0 1 = cc in apart none
figures_front (x ∷ rest) ds b s k t w =
    let bs = x ∷ rest in
    let e : kind x ≡ Digit = cc in
    let wide : length ds ≡ prefix_len is_digit bs = ap length t ∙ length-prefix_len is_digit bs in
    record {
      is = sym (cond-false (badly_written ds) (bad 2) (number (digits_value 10 ds)) w) ∙ ap figures t ∙ ap (λ k. mark_of k x bs) (sym e);
      wide = wide ∙ ap (λ k. width_of k bs) (sym e);
      few = omega (arith, wide, prefix_len-le-length is_digit bs);
      written = well_written ds (subst (Every is_digit) (sym t) (front_passes is_digit bs)) w;
    }
