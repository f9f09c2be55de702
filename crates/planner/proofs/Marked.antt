-- What a write to the bench makes of the marks.
use Rattle.std.proofs.Common.{◌≡◌, ℕ, ◌<◌, List, [], length, set, replicate, None, sym, ap, ◌∙◌, subst, inl, inr, arith}
use mathlib.Core.Path.{fun_ext}
use Rattle.std.proofs.lemmas.List.{get_or-set_same, get_or-set_other, get_or-replicate, get_or_past, length-replicate}
use Rattle.std.proofs.lemmas.Bool.{cases_eq, cases_lt}
use Rattle.course.specs.declared.machine.Mark.{Mark}
use Rattle.course.specs.declared.machine.Mark.TheVariants.{Unseen, Open}
use Rattle.course.specs.Blanks.{Meaning, Lawful}
use Rattle.course.specs.Machine.{State, Order, Raised, fresh}
use Rattle.course.specs.Calls.{Life, clamped}
use Rattle.course.proofs.Marks.{put, put_same, put_other}
use Rattle.course.proofs.SoundMarks.{SoundMarks, marks_first, seen_in}
use Rattle.planner.specs.Searches.{marks_of}
use Rattle.planner.specs.Scans.{Inside}

-- A write of one mark, state by state.
marked_at : (marks : List Mark) (v : ℕ) (x : Mark) → v < length marks → (u : ℕ) → marks_of (set marks v x) u ≡ put (marks_of marks) v x u
marked_at marks v x inside u = elim (cases_eq u v) [
  | inl e ↦ ap (marks_of (set marks v x)) e ∙ get_or-set_same marks v x Unseen inside ∙ sym (put_same (marks_of marks) v x) ∙ ap (put (marks_of marks) v x) (sym e)
  | inr apart ↦ get_or-set_other marks v u x Unseen apart ∙ sym (put_other (marks_of marks) v x u apart)
]

-- And of them all.
pub marked_set : (marks : List Mark) (v : ℕ) (x : Mark) → v < length marks → marks_of (set marks v x) ≡ put (marks_of marks) v x
marked_set marks v x inside = fun_ext (marked_at marks v x inside)

-- A clean bench.
clean_at : (n u : ℕ) → marks_of (replicate n Unseen) u ≡ Unseen
clean_at n u = elim (cases_lt u n) [ inl low ↦ get_or-replicate n u Unseen Unseen low | inr high ↦ get_or_past (replicate n Unseen) u Unseen (omega (arith, length-replicate n Unseen)) ]

-- The marks of a clean bench where only the start is open are those of a fresh state.
pub fresh_marks : {m : Meaning} {marks : List Mark} → Lawful m → marks ≡ set (replicate 1024 Unseen) m.start (Open (record { g = 0; from = None })) → marks_of marks ≡ (fresh m).mark
fresh_marks {m} {marks} law e =
    ap marks_of e
    ∙ marked_set (replicate 1024 Unseen) m.start (Open (record { g = 0; from = None })) (omega (arith, law.start_in, law.states_most, length-replicate 1024 Unseen))
    ∙ ap (λ (k : ℕ → Mark). put k m.start (Open (record { g = 0; from = None }))) (fun_ext (clean_at 1024))

-- Where the marks are sound, every open state is a state of the graph.
pub marks_inside : {m : Meaning} (s : State) → Lawful m → SoundMarks m s.mark → Inside m s
marks_inside s law marks u r e = seen_in law marks u r (inl e)

-- A life begins where the floor of a fresh state is raised.
pub begins_life : {m : Meaning} {ord : Order} {mark : ℕ → Mark} {z : State} → Lawful m → mark ≡ (fresh m).mark
    → (Inside m (record { mark = mark; standing = None; ceiling = 1023000; p = 1; q = 1; floor = 0; moves = 0 }) → Raised m (record { mark = mark; standing = None; ceiling = 1023000; p = 1; q = 1; floor = 0; moves = 0 }) z)
    → Life m ord [] z
begins_life {m} {ord} {mark} {z} law e raised =
    let P : (ℕ → Mark) → Type 0 = λ k. Inside m (record { mark = k; standing = None; ceiling = 1023000; p = 1; q = 1; floor = 0; moves = 0 }) → Raised m (record { mark = k; standing = None; ceiling = 1023000; p = 1; q = 1; floor = 0; moves = 0 }) z in
    clamped (subst P e raised (marks_inside (fresh m) law (marks_first law)))
