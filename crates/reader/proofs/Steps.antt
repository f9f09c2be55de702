-- One form after another, and the first fault.
use Rattle.std.proofs.Common.{◌≡◌, ℕ, List, ◌++◌, IsErrAnd, Ok, Err, Result, refl, ap, ◌∙◌}
use Rattle.text.specs.declared.Fault.{Fault}
use Rattle.text.specs.Forms.{Form, got, and_then, follow}
use Rattle.text.proofs.Forms.{goes, after, follow_append}
use Rattle.reader.specs.declared.marks.Reader.{Reader}
use Rattle.reader.specs.declared.errors.ReadError.{ReadError}
use Rattle.reader.specs.declared.errors.ReadError.TheVariants.{AtFault, NoMemory}
use Rattle.reader.specs.Rows.{Outcome}
use Rattle.reader.specs.Readings.{Reads, Went, Stopped, told, rest}

pub went_then : {f g : Form} {ns ms : List ℕ} {from mid to : Reader} → Went f ns from mid → Went g ms mid to → Went (f ++ g) (ns ++ ms) from to
went_then {f} {g} {ns} {ms} {from} {mid} {to} h k =
    record {
      same = k.same ∙ h.same;
      tells =
          follow_append f g from.at (rest from)
          ∙ goes (follow f from.at (rest from)) (after g) ns mid.at (rest mid) (got (ns ++ ms) to.at (rest to)) h.tells
          (goes (follow g mid.at (rest mid)) (λ ms q bs. got (ns ++ ms) q bs) ms to.at (rest to) (got (ns ++ ms) to.at (rest to)) k.tells refl);
    }

pub stopped_first : {f : Form} {from to : Reader} {e : Fault} (g : Form) → Stopped f from to e → Stopped (f ++ g) from to e
stopped_first {f} {from} {to} {e} g h =
    record { same = h.same; tells = follow_append f g from.at (rest from) ∙ ap (λ r. and_then r (after g)) h.tells }

pub stopped_then : {f g : Form} {ns : List ℕ} {from mid to : Reader} {e : Fault} → Went f ns from mid → Stopped g mid to e → Stopped (f ++ g) from to e
stopped_then {f} {g} {ns} {from} {mid} {to} {e} h k =
    record {
      same = k.same ∙ h.same;
      tells =
          follow_append f g from.at (rest from)
          ∙ goes (follow f from.at (rest from)) (after g) ns mid.at (rest mid) (told e) h.tells
          (ap (λ r. and_then r (λ ms q bs. got (ns ++ ms) q bs)) k.tells);
    }

pub reads_then :
    {A : Type 0} {f : Form} {ns : List ℕ} {from mid : Reader} (g : Form) (mean : A → List ℕ) (to : Reader) (r : Result A Fault)
    → Went f ns from mid → Reads g mean mid to r → Reads (f ++ g) (λ a. ns ++ mean a) from to r
reads_then g mean to (Ok a) h k = went_then h k
reads_then g mean to (Err e) h k = stopped_then h k

-- A fault passes upward as it is.
pub passes_up :
    {A : Type 0} {f : Form} {from to : Reader} {e : Fault} (mean : A → List ℕ) (r : Result A Fault)
    → Stopped f from to e → IsErrAnd r (λ y. y ≡ e) → Reads f mean from to r
passes_up mean (Ok a) h k = absurd k
passes_up mean (Err d) h k = rw k h

pub passes_out :
    {A : Type 0} (P : A → Type 0) (Q : Fault → Type 0) (e : Fault) (r : Result A ReadError) → IsErrAnd r (λ y. y ≡ AtFault e) → Q e → Outcome P Q r
passes_out P Q e (Ok a) h k = absurd h
passes_out P Q e (Err d) h k = rw h k

-- What failed is handed upward as it is, want of memory or a fault, which is then a fault of the whole.
pub hands_up :
    {A B : Type 0} (P : A → Type 0) (Q : Fault → Type 0) (R : B → Type 0) (S : Fault → Type 0) (e : ReadError) (r : Result A ReadError)
    → IsErrAnd r (λ y. y ≡ e) → Outcome R S (Err e) → ((f : Fault) → S f → Q f) → Outcome P Q r
hands_up P Q R S e (Ok a) h k up = absurd h
hands_up P Q R S (AtFault f) (Err d) h k up = rw h (up f k)
hands_up P Q R S (NoMemory a) (Err d) h k up = rw h tt
