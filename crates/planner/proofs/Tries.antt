-- One place tried, by what the blank answers of it.
use Rattle.std.proofs.Common.{◌≡◌, ℕ, ◌+◌, ◌<◌, ◌≤◌, List, [], ◌∷◌, ◌++◌, length, Some, None, Option, sym, subst, arith}
use Rattle.std.proofs.lemmas.List.{length_push}
use Rattle.course.specs.declared.machine.Mark.{Mark}
use Rattle.course.specs.declared.machine.Mark.TheVariants.{Open}
use Rattle.course.specs.Blanks.{join, Meaning, Walk, Lawful}
use Rattle.course.specs.Machine.{State, Standing, limit, sum, marked, stands, Chain, News, Tried, empty, dear, arrives, opens, keeps}
use Rattle.course.proofs.Marks.{put, Within}
use Rattle.course.proofs.SoundMarks.{SoundMarks, walked}
use Rattle.course.proofs.Lengths.{route_short}

-- A state with another mark.
pub marks_as : (s : State) (v : ℕ) (x : Mark) {mark : ℕ → Mark} {standing : Option Standing} → mark ≡ put s.mark v x → standing ≡ s.standing → ◌≡◌ {A = State} (record { mark = mark; standing = standing; ceiling = s.ceiling; p = s.p; q = s.q; floor = s.floor; moves = s.moves }) (marked s v x)
marks_as s v x e f i = record { mark = e i; standing = f i; ceiling = s.ceiling; p = s.p; q = s.q; floor = s.floor; moves = s.moves }

module _ {m : Meaning} {n g : ℕ} {x : Option (ℕ × ℕ)} {s : State} where
  pub try_empty : None ≡ x → Tried m n g x s s
  try_empty e = subst (λ (y : Option (ℕ × ℕ)). Tried m n g y s s) e empty

  pub try_dear : {v c : ℕ} → Some (v, c) ≡ x → limit s ≤ sum m v (join g c) → Tried m n g x s s
  try_dear e high = subst (λ (y : Option (ℕ × ℕ)). Tried m n g y s s) e (dear high)

  pub try_keeps : {v c : ℕ} → Some (v, c) ≡ x → sum m v (join g c) < limit s → (v ≡ m.goal → ⊥) → (News (s.mark v) (join g c) → ⊥) → Tried m n g x s s
  try_keeps e low apart old = subst (λ (y : Option (ℕ × ℕ)). Tried m n g y s s) e (keeps low apart old)

  pub try_opens : {v c : ℕ} {z : State} → Some (v, c) ≡ x → sum m v (join g c) < limit s → (v ≡ m.goal → ⊥) → News (s.mark v) (join g c) → z ≡ marked s v (Open (record { g = join g c; from = Some n })) → Tried m n g x s z
  try_opens {v} {c} {z} e low apart news is = subst (λ (y : Option (ℕ × ℕ)). Tried m n g y s z) e (subst (λ (k : State). Tried m n g (Some (v, c)) s k) (sym is) (opens low apart news))

  pub try_arrives : {v c : ℕ} {z : State} → Lawful m → Some (v, c) ≡ x → sum m v (join g c) < limit s → v ≡ m.goal → SoundMarks m s.mark → Within s.mark n g
      → ((path : List ℕ) (d : ℕ) → Chain s.mark n path → length path < 1024 → Walk m m.start n path d → z ≡ stands s (path ++ v ∷ []) (d + c)) → Tried m n g x s z
  try_arrives {v} {c} {z} law e low home marks within is =
      let k = walked law marks within in
      let few : length k.path < 1024 = omega (arith, route_short law marks k.chain, length_push k.path m.goal, law.states_most) in
      subst (λ (y : Option (ℕ × ℕ)). Tried m n g y s z) e (subst (λ (y : State). Tried m n g (Some (v, c)) s y) (sym (is k.path k.d k.chain few k.walk)) (arrives low home k.chain k.walk))
