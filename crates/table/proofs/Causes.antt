-- What a bad place is bad by, cause for cause, and how the checks join to the worst flaw.
use Rattle.std.proofs.Common.{◌≡◌, ℕ, ◌+◌, ◌<◌, ◌≤◌, length, get_or, Some, None, Ok, Err, Option, Result, MatchOption, sym, refl, subst, inl, inr, arith}
use Rattle.std.proofs.lemmas.Bool.{cases_lt, cases_eq}
use Rattle.course.specs.declared.refusal.Refusal.{Refusal}
use Rattle.course.specs.declared.refusal.Refusal.TheVariants.{SteepEstimate}
use Rattle.course.specs.Refusals.{number_of}
use Rattle.table.specs.declared.flaw.Flaw.{Flaw}
use Rattle.table.specs.Table.{Rows, states, Shape, Ends, GoodTarget, GoodCost, GoodEstimate, GoodSlope, Bad, shape, ends, target, cost, estimate, slope, Passes, Worst}
use Rattle.table.specs.Checks.{First, Lapse, told, Checked}

pub bad_five : (r : Rows) (e : ℕ) → Bad r 5 e → (e ≡ 0) × (Shape r → ⊥)
bad_five r e (shape f) = (refl, f)

pub bad_six : (r : Rows) (e : ℕ) → Bad r 6 e → (e ≡ 0) × (Ends r → ⊥)
bad_six r e (ends f) = (refl, f)

pub bad_seven : (r : Rows) (e : ℕ) → Bad r 7 e → (u : ℕ) × Lapse r (GoodTarget r) u e
bad_seven r e (target u e1 k f) = (u, record { held = k; fails = f })

pub bad_eight : (r : Rows) (e : ℕ) → Bad r 8 e → (e < length r.costs) × (GoodCost (get_or r.costs e 0) → ⊥)
bad_eight r e (cost e1 k f) = (k, f)

pub bad_nine : (r : Rows) (e : ℕ) → Bad r 9 e → (e < states r) × (GoodEstimate r e → ⊥)
bad_nine r e (estimate s k f) = (k, f)

pub bad_ten : (r : Rows) (e : ℕ) → Bad r 10 e → (u : ℕ) × Lapse r (GoodSlope r) u e
bad_ten r e (slope u e1 k f) = (u, record { held = k; fails = f })

pub bad_cause : (r : Rows) (c e : ℕ) → Bad r c e → (5 ≤ c) × (c ≤ 10)
bad_cause r c e (shape f) = (omega arith, omega arith)
bad_cause r c e (ends f) = (omega arith, omega arith)
bad_cause r c e (target u e1 k f) = (omega arith, omega arith)
bad_cause r c e (cost e1 k f) = (omega arith, omega arith)
bad_cause r c e (estimate s k f) = (omega arith, omega arith)
bad_cause r c e (slope u e1 k f) = (omega arith, omega arith)

-- What a search through the estimates finds.
pub first_estimate :
    (r : Rows) (o : Option ℕ)
    → MatchOption o ((k : ℕ) → 0 ≤ k → k < states r → GoodEstimate r k) (λ s. (0 ≤ s) × (s < states r) × (GoodEstimate r s → ⊥) × ((k : ℕ) → 0 ≤ k → k < s → GoodEstimate r k))
    → First (Bad r 9) o
first_estimate r None h = λ e x. let b = bad_nine r e x in b.1 (h e (omega arith) b.0)
first_estimate r (Some s) h = (
  estimate s h.1 h.2,
  λ k x. elim (cases_lt k s) [
    | inl l ↦ absurd ((bad_nine r k x).1 (h.3 k (omega arith) l))
    | inr l ↦ l
  ],
)

-- No cause below c applies.
abbrev pub From : Rows → ℕ → Type 0
From r c = (k e : ℕ) → Bad r k e → c ≤ k

pub from_more : (r : Rows) (c : ℕ) → From r c → First (Bad r c) None → From r (c + 1)
from_more r c h f k e x =
    elim (cases_eq c k) [
      | inl s ↦ let P : ℕ → Type 0 = λ c. Bad r c e in absurd (f e (subst P (sym s) x))
      | inr s ↦ elim (cases_lt c k) [ inl t ↦ omega arith | inr t ↦ absurd (s (omega (arith, h k e x))) ]
    ]

pub worst_first : (r : Rows) (c p : ℕ) → From r c → First (Bad r c) (Some p) → Worst r c p
worst_first r c p h f =
    record {
      is = f.0;
      least =
          λ k e x.
          elim (cases_lt c k) [
            | inl s ↦ inl s
            | inr s ↦
                let same : c ≡ k = omega (arith, h k e x) in
                let P : ℕ → Type 0 = λ c. Bad r c e in
                inr (same, f.1 e (subst P (sym same) x))
          ];
    }

-- A cause whose first bad place is looked for, where no smaller one applies: the check goes on where there is none, and else stops at it.
pub past : (r : Rows) (cause : Refusal) (o : Option ℕ) (t : Unit {0}) → From r (number_of cause) → First (Bad r (number_of cause)) o → told cause o ≡ Ok t → From r (number_of cause + 1)
past r cause None t h f e = from_more r (number_of cause) h f
past r cause (Some p) t h f e = cc

pub stop : (r : Rows) (cause : Refusal) (o : Option ℕ) (flaw : Flaw) → From r (number_of cause) → First (Bad r (number_of cause)) o → told cause o ≡ Err flaw → Worst r (number_of flaw.cause) flaw.place
stop r cause None flaw h f e = cc
stop r cause (Some p) flaw h f e =
    let same : record { cause = cause; place = p } ≡ flaw = cc in
    let P : Flaw → Type 0 = λ w. Worst r (number_of w.cause) w.place in
    subst P same (worst_first r (number_of cause) p h f)

pub from_six : (r : Rows) → Shape r → From r 6
from_six r s = from_more r 5 (λ c e x. (bad_cause r c e x).0) (λ e x. (bad_five r e x).1 s)

pub from_seven : (r : Rows) → Shape r → Ends r → From r 7
from_seven r s t = from_more r 6 (from_six r s) (λ e x. (bad_six r e x).1 t)

pub worst_shape : (r : Rows) → (Shape r → ⊥) → Worst r 5 0
worst_shape r f = worst_first r 5 0 (λ c e x. (bad_cause r c e x).0) (shape f, λ k x. omega arith)

pub worst_ends : (r : Rows) → Shape r → (Ends r → ⊥) → Worst r 6 0
worst_ends r s f = worst_first r 6 0 (from_six r s) (ends f, λ k x. omega arith)

pub passes_all : (r : Rows) → From r 11 → Passes r
passes_all r h c e x = absurd (omega (arith, h c e x, (bad_cause r c e x).1))

-- The last cause decides.
pub decided : (r : Rows) (o : Option ℕ) (v : Result (Unit {0}) Flaw) → From r 10 → First (Bad r 10) o → v ≡ told SteepEstimate o → Checked r v
decided r o (Ok t) h f e = passes_all r (past r SteepEstimate o t h f (sym e))
decided r o (Err flaw) h f e = stop r SteepEstimate o flaw h f (sym e)
