-- A move, from what its steps ensure.
use Rattle.std.proofs.Common.{◌≡◌, ℕ, ◌+◌, ◌*◌, ◌≤◌, Some, None, Option, sym, ap, subst, mul-le-mul_right, mul_comm}
use Rattle.course.specs.declared.machine.Reach.{Reach}
use Rattle.course.specs.declared.machine.Mark.{Mark}
use Rattle.course.specs.declared.machine.Mark.TheVariants.{Open, Closed}
use Rattle.course.specs.Blanks.{Meaning, Lawful}
use Rattle.course.specs.Machine.{State, Standing, Order, marked, counted, Live, Least, Focal, Chosen, Cuts, Raised, to_least, to_limit, raised_to, Move}
use Rattle.course.proofs.Marks.{put}
use Rattle.course.proofs.Cuts.{move_from}
use Rattle.course.proofs.Moves.{During, closes, cuts_keep}
use Rattle.course.proofs.Floor.{Held}
use Rattle.planner.specs.Scans.{Inside, FoundLeast}
use Rattle.planner.proofs.Marked.{marks_inside}

-- The state after the chosen one is closed and the move counted.
pub shuts_as : (s : State) (n : ℕ) (x : Mark) {mark : ℕ → Mark} {standing : Option Standing} {moves : ℕ} → mark ≡ put s.mark n x → standing ≡ s.standing → moves ≡ s.moves + 1 → ◌≡◌ {A = State} (record { mark = mark; standing = standing; ceiling = s.ceiling; p = s.p; q = s.q; floor = s.floor; moves = moves }) (counted (marked s n x))
shuts_as s n x e f h i = record { mark = e i; standing = f i; ceiling = s.ceiling; p = s.p; q = s.q; floor = s.floor; moves = h i }

-- The state of the least sum is in the focal set.
pub least_focal : {m : Meaning} {s : State} {f : ℕ} → s.q ≤ s.p → (least : Least m s f) → Focal m s f least.at least.at_g
least_focal {m} {s} {f} order least = record { live = least.live; near = subst (λ (x : ℕ). x * s.q ≤ s.p * f) (sym least.is) (rw mul_comm (mul-le-mul_right f order)) }

-- A chosen state is open by the reach that its mark shows.
pub chosen_by : {m : Meaning} {ord : Order} {s : State} {f n : ℕ} {r : Reach} → s.mark n ≡ Open r → (g : ℕ) × Chosen m ord s f n g → Chosen m ord s f n r.g
chosen_by {m} {ord} {s} {f} {n} {r} is (g, chosen) =
    let e = chosen.focal.live.is_open in
    let same : ◌≡◌ {A = Reach} (record { g = g; from = chosen.focal.live.from }) r = cc in
    subst (λ (k : ℕ). Chosen m ord s f n k) (ap (λ (x : Reach). x.g) same) chosen

-- A raised floor leaves the live states, and so the least sum, as they were.
live_raised : {m : Meaning} {s : State} {x u g : ℕ} → Live m s u g → Live m (raised_to s x) u g
live_raised live = record { from = live.from; is_open = live.is_open; below = live.below }

live_before : {m : Meaning} {s : State} {x u g : ℕ} → Live m (raised_to s x) u g → Live m s u g
live_before live = record { from = live.from; is_open = live.is_open; below = live.below }

least_raised : (m : Meaning) (s : State) (x : ℕ) (next : Option ℕ) → FoundLeast m s next → FoundLeast m (raised_to s x) next
least_raised m s x None none = λ u g live. none u g (live_before live)
least_raised m s x (Some f) least = record {
  at = least.at;
  at_g = least.at_g;
  live = live_raised least.live;
  is = least.is;
  none_less = λ u g live. least.none_less u g (live_before live);
}

pub least_after : {m : Meaning} {s z : State} (next : Option ℕ) → Raised m s z → FoundLeast m s next → FoundLeast m z next
least_after {m} {s} next (to_least f) found = least_raised m s _ next found
least_after {m} {s} next (to_limit none) found = least_raised m s _ next found

-- The whole move, with the least sum after it.
pub moves_from : {m : Meaning} {ord : Order} {s y z w : State} {n f : ℕ} {r : Reach} (next : Option ℕ) → Lawful m → Held m s → Least m s f → (g : ℕ) × Chosen m ord s f n g → s.mark n ≡ Open r → y ≡ counted (marked s n (Closed r)) → (During m n r.g (m.places n) y → Cuts m n r.g (m.places n) y z) → (Inside m z → FoundLeast m z next) → (FoundLeast m z next → Raised m z w) → Move m ord s w × FoundLeast m w next
moves_from {m} {ord} {s} {y} {z} {w} {n} {f} {r} next law held least chosen is shut cuts found raised =
    let P : State → Type 0 = λ x. During m n r.g (m.places n) x → Cuts m n r.g (m.places n) x z in
    let during = closes m s n r is held.kept held.settled in
    let tried = subst P shut cuts during in
    let after = found (marks_inside z law (cuts_keep law during tried).kept.marks) in
    (move_from r least (chosen_by is chosen) is tried (raised after), least_after next (raised after) after)
