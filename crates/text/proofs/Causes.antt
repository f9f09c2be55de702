-- The cause told is the one of what stands at the place.
use Rattle.std.proofs.Common.{◌≡◌, ℕ, ◌<◌, ◌≤◌, Bool, true, false, cond, List, [], ◌∷◌, ◌++◌, length, get_or, take, drop, sym, refl, ap, ◌∙◌, subst, add-zero, arith}
use Rattle.std.specs.Str.Parse.{digits_value}
use Rattle.std.specs.List.{prefix_len}
use Rattle.std.proofs.lemmas.List.{take-append-drop, length-drop, length-take-le, get_or-drop}
use Rattle.std.proofs.lemmas.List.Sums.{prefix_len-le-length}
use Rattle.std.proofs.lemmas.Bool.{cond-true}
use Rattle.text.specs.Marks.{Mark, sign, number, bad, is_digit, kind, mark_of, next, width, badly_written}
use Rattle.text.specs.declared.Kind.{Kind}
use Rattle.text.specs.declared.Kind.TheVariants.{Single, Letter, Digit, Outside}
use Rattle.text.specs.Forms.{Got, fault}
use Rattle.text.specs.Reading.{document, parsed}
use Rattle.text.specs.Causes.{Full, Run, Spot, Told, outside, badly, too_long, too_many, misplaced}
use Rattle.text.specs.Document.{Document}
use Rattle.text.specs.Verdicts.{refused, Concludes, Says}
use Rattle.text.specs.Promises.{CausesAreTold, OneCause, TooMuchIsTold}
use Rattle.text.proofs.Runs.{stops_first, first_stops, front_passes, leading_some, digit_kind}
use Rattle.text.proofs.Marks.{begins_with, shows_figures}
use Rattle.text.proofs.Forms.{apart}
use Rattle.text.proofs.Local.{leading_stops}
use Rattle.text.proofs.Documents.{parsed_short, parsed_long, Refusal, long, stopped, checked, refusal}
use Rattle.text.proofs.Faults.{document_starts}
use Rattle.text.proofs.Begun.{Why, no_mark, not_wanted, one_more_cut, at_beginning, at_count, document_stopped, begun_at}
use Rattle.text.proofs.Full.{full_read}

-- What is no mark: a byte outside the set, or a run of digits badly written.
data NoMark (bs : List ℕ) (c : ℕ) : Type 0 where
  a_byte : c ≡ 1 → 0 < length bs → kind (get_or bs 0 0) ≡ Outside → NoMark bs c
  a_run : c ≡ 2 → (ds : List ℕ) → Run ds bs → badly_written ds ≡ true → NoMark bs c

bad_mark : (bs : List ℕ) (c : ℕ) → next bs ≡ bad c → NoMark bs c
bad_mark [] c e = let z : ◌≡◌ {A = ℕ} 0 1 = cc in apart z
bad_mark (b ∷ bs) c e = go (kind b) refl e
  where
    n : ℕ
    n = prefix_len is_digit (b ∷ bs)

    ds : List ℕ
    ds = take (prefix_len is_digit (b ∷ bs)) (b ∷ bs)

    digits : kind b ≡ Digit → (t : Bool) → badly_written ds ≡ t → cond t (bad 2) (number (digits_value 10 ds)) ≡ bad c → NoMark (b ∷ bs) c
    digits k true t e =
        a_run (cc) ds
        (record {
          some = omega (arith, length-take-le n (b ∷ bs) (prefix_len-le-length is_digit (b ∷ bs)), leading_some is_digit b bs (digit_kind b k));
          digits = front_passes is_digit (b ∷ bs);
          rest = drop n (b ∷ bs);
          is = sym (take-append-drop n (b ∷ bs));
          ends = stops_first is_digit refl (drop n (b ∷ bs)) (leading_stops is_digit (b ∷ bs));
        })
        t
    digits k false t e = let z : ◌≡◌ {A = ℕ} 0 1 = cc in apart z

    go : (k : Kind) → kind b ≡ k → mark_of k b (b ∷ bs) ≡ bad c → NoMark (b ∷ bs) c
    go Single k e = let z : ◌≡◌ {A = ℕ} 0 1 = cc in apart z
    go Letter k e = let z : ◌≡◌ {A = ℕ} 0 1 = cc in apart z
    go Digit k e = digits k (badly_written ds) refl e
    go Outside k e = a_byte (cc) (omega arith) k

outside_mark : (bs : List ℕ) → 0 < length bs → kind (get_or bs 0 0) ≡ Outside → next bs ≡ bad 1
outside_mark [] h e = absurd (omega arith)
outside_mark (b ∷ bs) h e = ap (λ k. mark_of k b (b ∷ bs)) e

run_mark : (ds bs : List ℕ) → Run ds bs → badly_written ds ≡ true → next bs ≡ bad 2
run_mark ds bs h t =
    ap next h.is ∙ (shows_figures ds h.rest h.some h.digits (first_stops is_digit h.rest h.ends)).is
    ∙ cond-true (badly_written ds) (bad 2) (number (digits_value 10 ds)) t

as_told : (text : List ℕ) (p i j l c : ℕ) → i ≡ l → j ≡ c → Told text p i j → Told text p l c
as_told text p i j l c a b h =
    let P : ℕ → Type 0 = λ x. Told text p x j in
    let Q : ℕ → Type 0 = λ x. Told text p l x in
    subst Q b (subst P a h)

-- The reading of a text that is full up to a bracket stops there, with cause 4.
full_text : (text : List ℕ) (p : ℕ) → Full (take p text) → next (drop p text) ≡ sign 40 → document text ≡ fault 2 4 (length (take p text))
full_text text p h k =
    let rest = drop (width (drop p text)) (drop p text) in
    let whole : text ≡ take p text ++ 40 ∷ rest = sym (take-append-drop p text) ∙ ap (λ z. take p text ++ z) (begins_with 40 (drop p text) k) in
    ap document whole ∙ full_read (take p text) rest h

pub causes_are_told : CausesAreTold
causes_are_told text l c p says small = go (refusal text l c p says)
  where
    outside_set : Spot text p → 0 < length (drop p text) → kind (get_or (drop p text) 0 0) ≡ Outside → Told text p 1 1
    outside_set s h k =
        outside s (omega (arith, length-drop p text)) (ap kind (ap (λ n. get_or text n 0) (sym (add-zero p)) ∙ sym (get_or-drop p text 0 0)) ∙ k)

    no_mark_told : Spot text p → l ≡ 1 → NoMark (drop p text) c → Told text p l c
    no_mark_told s a (a_byte b h k) = as_told text p 1 1 l c (sym a) (sym b) (outside_set s h k)
    no_mark_told s a (a_run b ds h k) = as_told text p 1 2 l c (sym a) (sym b) (badly s ds h k)

    why_told : document text ≡ fault l c p → Spot text p → (over : List ℕ) (m : Mark) → take p text ≡ over → next (drop p text) ≡ m → Why Full over m l c → Told text p l c
    why_told e s over m front back (no_mark k a) = no_mark_told s a (bad_mark (drop p text) c (back ∙ k))
    why_told e s over m front back (not_wanted f a b) =
        as_told text p 2 3 l c (sym a) (sym b)
        (misplaced s (λ k h. f k (sym back ∙ h)) (λ h k. let t = full_text text p h k in let z : c ≡ 4 = cc in omega arith))
    why_told e s over m front back (one_more_cut f k a b) =
        as_told text p 2 4 l c (sym a) (sym b) (too_many s (subst (λ z. Full z) (sym front) f) (back ∙ k))

    go : Refusal text l c p → Told text p l c
    go (long h a b m) = as_told text p 2 4 l c (sym a) (sym b) (too_long h m)
    go (checked d h a w) = absurd (omega arith)
    go (stopped h e) =
        elim (document_stopped text l c p e) [
          | at_count a b m ↦ absurd (omega arith)
          | at_beginning v ↦
              let at = begun_at v in
              why_told e (record { fits = h; starts = document_starts text l c p e small }) v.over (next v.left)
              at.0
              (ap next at.1)
              v.why
        ]

-- What is told, by the length of the text and the mark at the place.
data Case (text : List ℕ) (place l c : ℕ) : Type 0 where
  by_length : 60000 < length text → l ≡ 2 → c ≡ 4 → Case text place l c
  by_no_mark : length text ≤ 60000 → next (drop place text) ≡ bad c → l ≡ 1 → Case text place l c
  by_cuts : length text ≤ 60000 → Full (take place text) → next (drop place text) ≡ sign 40 → l ≡ 2 → c ≡ 4 → Case text place l c
  by_mark :
      length text ≤ 60000 → ((c : ℕ) → next (drop place text) ≡ bad c → ⊥) → (Full (take place text) → next (drop place text) ≡ sign 40 → ⊥) → l ≡ 2
      → c ≡ 3 → Case text place l c

case : (text : List ℕ) (place l c : ℕ) → Told text place l c → Case text place l c
case text place l c (outside s h k) =
    by_no_mark s.fits
    (outside_mark (drop place text) (omega (arith, length-drop place text))
    (ap kind (get_or-drop place text 0 0 ∙ ap (λ n. get_or text n 0) (add-zero place)) ∙ k))
    refl
case text place l c (badly s ds h k) = by_no_mark s.fits (run_mark ds (drop place text) h k) refl
case text place l c (too_long h m) = by_length h refl refl
case text place l c (too_many s f k) = by_cuts s.fits f k refl refl
case text place l c (misplaced s f g) = by_mark s.fits f g refl refl

pub one_cause : OneCause
one_cause text place l c k d x y = same (case text place l c x) (case text place k d y)
  where
    same : Case text place l c → Case text place k d → (l ≡ k) × (c ≡ d)
    same (by_length h a b) (by_length h1 a1 b1) = (omega arith, omega arith)
    same (by_length h a b) (by_no_mark h1 m1 a1) = absurd (omega arith)
    same (by_length h a b) (by_cuts h1 f1 m1 a1 b1) = absurd (omega arith)
    same (by_length h a b) (by_mark h1 f1 g1 a1 b1) = absurd (omega arith)
    same (by_no_mark h m a) (by_length h1 a1 b1) = absurd (omega arith)
    same (by_no_mark h m a) (by_no_mark h1 m1 a1) = (omega arith, let e : c ≡ d = cc in e)
    same (by_no_mark h m a) (by_cuts h1 f1 m1 a1 b1) = let z : ◌≡◌ {A = ℕ} 0 1 = cc in apart z
    same (by_no_mark h m a) (by_mark h1 f1 g1 a1 b1) = absurd (f1 c m)
    same (by_cuts h f m a b) (by_length h1 a1 b1) = absurd (omega arith)
    same (by_cuts h f m a b) (by_no_mark h1 m1 a1) = let z : ◌≡◌ {A = ℕ} 0 1 = cc in apart z
    same (by_cuts h f m a b) (by_cuts h1 f1 m1 a1 b1) = (omega arith, omega arith)
    same (by_cuts h f m a b) (by_mark h1 f1 g1 a1 b1) = absurd (g1 f m)
    same (by_mark h f g a b) (by_length h1 a1 b1) = absurd (omega arith)
    same (by_mark h f g a b) (by_no_mark h1 m1 a1) = absurd (f d m1)
    same (by_mark h f g a b) (by_cuts h1 f1 m1 a1 b1) = absurd (g f1 m1)
    same (by_mark h f g a b) (by_mark h1 f1 g1 a1 b1) = (omega arith, omega arith)

pub too_much_is_told : TooMuchIsTold
too_much_is_told text place = ((λ says. causes_are_told text 2 4 place says (omega arith)), to)
  where
    as_read : (q : ℕ) → parsed text ≡ fault 2 4 q → place ≡ q → Says text (refused 2 4 place)
    as_read q e h =
        let P : Got Document → Type 0 = λ g. Concludes g (refused 2 4 place) in
        subst P (sym e) (ap (λ z. refused 2 4 z) h)

    to : Told text place 2 4 → Says text (refused 2 4 place)
    to (too_long h m) = as_read 60000 (parsed_long text h) m
    to (too_many s f k) =
        let some : 0 < length (drop place text) = omega (arith, ap length (begins_with 40 (drop place text) k)) in
        let here : length (take place text) ≡ place = length-take-le place text (omega (arith, length-drop place text)) in
        as_read (length (take place text)) (parsed_short text s.fits ∙ full_text text place f k) (sym here)
