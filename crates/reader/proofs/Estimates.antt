-- The estimates, read one after another.
use Rattle.std.proofs.Common.{◌≡◌, ℕ, suc, ◌+◌, ◌-◌, ◌<◌, ◌≤◌, List, [], ◌∷◌, ◌++◌, sym, refl, ap, ◌∙◌, arith}
use Rattle.std.proofs.lemmas.List.{append_assoc, append-nil}
use Rattle.text.specs.declared.Fault.{Fault}
use Rattle.text.specs.Forms.{Form, Got, got, fault, and_then, follow, the_sign, a_number}
use Rattle.text.specs.Document.{spaced_numbers, line_end}
use Rattle.text.proofs.Forms.{goes, after, follow_append}
use Rattle.reader.specs.declared.marks.Reader.{Reader}
use Rattle.reader.specs.Readings.{Went, Stopped, rest}
use Rattle.reader.proofs.CutLines.{onto, onto_none}
use Rattle.reader.proofs.Steps.{stopped_first}

-- Of the form whole the form f is left, and ns were read.
pub record Left (whole f : Form) (ns : List ℕ) (start mid : Reader) : Type 0 where
  pub same : mid.text.now ≡ start.text.now
  pub left : follow whole start.at (rest start) ≡ and_then (follow f mid.at (rest mid)) (onto ns)

one_less : (n i : ℕ) → i < n → n - i ≡ suc (n - (i + 1))
one_less n i h = omega arith

-- At first all n are wanted, and none is read.
pub left_all : (n : ℕ) (ns : List ℕ) (start : Reader) → ns ≡ [] → Left (spaced_numbers n) (spaced_numbers (n - 0)) ns start start
left_all n ns start e =
    let all : n ≡ n - 0 = omega arith in
    let f = λ (k : ℕ). follow (spaced_numbers k) start.at (rest start) in
    rw e (record { same = refl; left = onto_none (f n) ∙ ap (λ k. and_then (f k) (onto [])) all })

onto_onto : (ns ms : List ℕ) (g : Got (List ℕ)) → and_then (and_then g (onto ms)) (onto ns) ≡ and_then g (onto (ns ++ ms))
onto_onto ns ms (got xs q bs) = ap (λ z. got z q bs) (sym (append_assoc ns ms xs))
onto_onto ns ms (fault l c p) = refl

pub left_more :
    {whole f : Form} {ns ms : List ℕ} {start mid to : Reader} (g : Form) → Left whole (f ++ g) ns start mid → Went f ms mid to → Left whole g (ns ++ ms) start to
left_more {whole} {f} {ns} {ms} {start} {mid} {to} g s w =
    record {
      same = w.same ∙ s.same;
      left =
          s.left
          ∙ ap (λ r. and_then r (onto ns))
          (follow_append f g mid.at (rest mid)
          ∙ goes (follow f mid.at (rest mid)) (after g) ms to.at (rest to) (and_then (follow g to.at (rest to)) (onto ms)) w.tells refl)
          ∙ onto_onto ns ms (follow g to.at (rest to));
    }

pub left_fault :
    {whole f : Form} {ns : List ℕ} {start mid to : Reader} {e : Fault} → Left whole f ns start mid → Stopped f mid to e → Stopped whole start to e
left_fault {whole} {f} {ns} s w = record { same = w.same ∙ s.same; tells = s.left ∙ ap (λ r. and_then r (onto ns)) w.tells }

pub left_end : {whole f : Form} {ns : List ℕ} {start mid to : Reader} → Left whole f ns start mid → Went f [] mid to → Went whole ns start to
left_end {whole} {f} {ns} {start} {mid} {to} s w =
    record { same = w.same ∙ s.same; tells = s.left ∙ ap (λ r. and_then r (onto ns)) w.tells ∙ ap (λ z. got z to.at (rest to)) (append-nil ns) }

-- One number more of the n that are wanted, the i before it read.
pub left_number :
    {n i : ℕ} {whole : Form} {ns : List ℕ} {start mid to : Reader} (x : ℕ)
    → Left whole (spaced_numbers (n - i)) ns start mid → i < n → Went (the_sign 32 ∷ a_number ∷ []) (x ∷ []) mid to
    → Left whole (spaced_numbers (n - (i + 1))) (ns ++ x ∷ []) start to
left_number {n} {i} {whole} {ns} {start} {mid} {to} x s h w = left_more (spaced_numbers (n - (i + 1))) (rw (one_less n i h) at s) w

pub number_fault :
    {n i : ℕ} {whole : Form} {ns : List ℕ} {start mid to : Reader} {e : Fault}
    → Left whole (spaced_numbers (n - i)) ns start mid → i < n → Stopped (the_sign 32 ∷ a_number ∷ []) mid to e → Stopped whole start to e
number_fault {n} {i} s h w = left_fault (rw (one_less n i h) at s) (stopped_first (spaced_numbers (n - (i + 1))) w)

-- Where none is wanted any more, the end of the line is.
pub left_none :
    {n i : ℕ} {whole : Form} {ns : List ℕ} {start mid : Reader} → Left whole (spaced_numbers (n - i)) ns start mid → n ≤ i → Left whole line_end ns start mid
left_none {n} {i} s h = let none : n - i ≡ 0 = omega arith in rw none at s
