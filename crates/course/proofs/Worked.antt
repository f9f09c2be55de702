-- The worked blank P is lawful, and its life is one.
use Rattle.std.proofs.Common.{◌≡◌, ℕ, zero, suc, ◌*◌, ◌<◌, ◌≤◌, true, List, [], ◌∷◌, length, get_or, Some, None, Option, sym, refl, ◌∙◌, subst, inl, inr, arith}
use Rattle.course.specs.Blanks.{join, Leads, Walk, stay, cut, Lawful}
use Rattle.course.specs.Machine.{Reach, Mark, unseen, opened, closed, State, limit, marked, stands, raised_to, counted, with_ratio, fresh, sum, Live, Least, NoLive, numbers, Order, LawfulRanks, Chosen, root, link, arrives, opens, Cuts, end, next, to_least, to_limit, Move}
use Rattle.course.specs.Calls.{Word, done, met, spent, work, ratio, worked, set, Works, is_done, is_met, is_spent, goes_on, Allowed, Does, works, over_budget, agrees, shows, tells, Life, clamped, then}
use Rattle.course.specs.Worked.{P, calls_of_P, WorkedOut}
use Rattle.course.proofs.Marks.{put, put_other, unseen_out}
use Rattle.course.proofs.Cuts.{move_from}
use Rattle.course.proofs.Possible.{none_met, far_met}

-- THE LAWS

-- The four cuts: the state, the place, the state led to and the cost.
data CutOfP : ℕ → ℕ → ℕ → ℕ → Type 0 where
  from_0_to_1 : CutOfP 0 0 1 30
  from_0_to_2 : CutOfP 0 1 2 50
  from_1_to_3 : CutOfP 1 0 3 60
  from_2_to_3 : CutOfP 2 0 3 20

-- What a place holds that is known to hold one cut.
held : {u i v c w d : ℕ} → CutOfP u i v c → ◌≡◌ {A = Option (ℕ × ℕ)} (Some (v, c)) (Some (w, d)) → CutOfP u i w d
held {u} {i} {v} {c} {w} {d} x e =
    let pair : ◌≡◌ {A = ℕ × ℕ} (v, c) (w, d) = cc in
    subst (λ (k : ℕ × ℕ). CutOfP u i k.0 k.1) pair x

-- An empty place holds none.
void : {A : Type 0} {x : ℕ × ℕ} → ◌≡◌ {A = Option (ℕ × ℕ)} None (Some x) → A
void e = let no_way : ◌≡◌ {A = ℕ} 0 1 = cc in absurd (omega arith)

-- There are no others.
which : (u i v c : ℕ) → get_or (P.places u) i None ≡ Some (v, c) → CutOfP u i v c
which zero zero v c e = held from_0_to_1 e
which zero (suc zero) v c e = held from_0_to_2 e
which zero (suc (suc i)) v c e = void e
which (suc zero) zero v c e = held from_1_to_3 e
which (suc zero) (suc i) v c e = void e
which (suc (suc zero)) zero v c e = held from_2_to_3 e
which (suc (suc zero)) (suc i) v c e = void e
which (suc (suc (suc zero))) i v c e = void e
which (suc (suc (suc (suc u)))) i v c e = void e

-- Where a cut leads from, by its place.
cut_at : {u v c : ℕ} (l : Leads P u v c) → CutOfP u l.place v c
cut_at {u} {v} {c} l = which u l.place v c l.holds

-- What a cut may be.
record FairCut (u v c : ℕ) : Type 0 where
  inside : v < 4
  apart : v ≡ u → ⊥
  low : 1 ≤ c
  high : c ≤ 1000

-- The four are so.
fair : {u i v c : ℕ} → CutOfP u i v c → FairCut u v c
fair from_0_to_1 = record { inside = omega arith; apart = λ e. omega arith; low = omega arith; high = omega arith }
fair from_0_to_2 = record { inside = omega arith; apart = λ e. omega arith; low = omega arith; high = omega arith }
fair from_1_to_3 = record { inside = omega arith; apart = λ e. omega arith; low = omega arith; high = omega arith }
fair from_2_to_3 = record { inside = omega arith; apart = λ e. omega arith; low = omega arith; high = omega arith }

-- No two lead from one state to the same.
one_place : {u i j v c d : ℕ} → CutOfP u i v c → CutOfP u j v d → i ≡ j
one_place from_0_to_1 from_0_to_1 = refl
one_place from_0_to_2 from_0_to_2 = refl
one_place from_1_to_3 from_1_to_3 = refl
one_place from_2_to_3 from_2_to_3 = refl

-- An estimate is at most a cut's cost with the estimate behind it.
falls_by_cost : {u i v c d : ℕ} → CutOfP u i v c → P.estimate v ≤ d → P.estimate u ≤ join c d
falls_by_cost from_0_to_1 h = omega arith
falls_by_cost from_0_to_2 h = omega arith
falls_by_cost from_1_to_3 h = omega arith
falls_by_cost from_2_to_3 h = omega arith

-- So it is at most the cost of a walk to the goal.
under_walks : {u w d : ℕ} {path : List ℕ} → w ≡ 3 → Walk P u w path d → P.estimate u ≤ d
under_walks e (stay u) = subst (λ (k : ℕ). P.estimate k ≤ 0) (sym e) (omega arith)
under_walks e (cut leads walk) = falls_by_cost (cut_at leads) (under_walks e walk)

-- What holds of the first four numbers, and of all others, holds of every number.
by_state : (Q : ℕ → Type 0) → Q 0 → Q 1 → Q 2 → Q 3 → ((u : ℕ) → 4 ≤ u → Q u) → (u : ℕ) → Q u
by_state Q a b c d more zero = a
by_state Q a b c d more (suc zero) = b
by_state Q a b c d more (suc (suc zero)) = c
by_state Q a b c d more (suc (suc (suc zero))) = d
by_state Q a b c d more (suc (suc (suc (suc u)))) = more (suc (suc (suc (suc u)))) (omega arith)

-- Beyond the four states P has nothing.
no_places : (u : ℕ) → 4 ≤ u → length (P.places u) ≡ 0
no_places zero h = absurd (omega arith)
no_places (suc zero) h = absurd (omega arith)
no_places (suc (suc zero)) h = absurd (omega arith)
no_places (suc (suc (suc zero))) h = absurd (omega arith)
no_places (suc (suc (suc (suc u)))) h = refl

-- No estimate either.
no_estimate : (u : ℕ) → 4 ≤ u → P.estimate u ≡ 0
no_estimate zero h = absurd (omega arith)
no_estimate (suc zero) h = absurd (omega arith)
no_estimate (suc (suc zero)) h = absurd (omega arith)
no_estimate (suc (suc (suc zero))) h = absurd (omega arith)
no_estimate (suc (suc (suc (suc u)))) h = refl

-- P keeps the laws.
lawful_P : Lawful P
lawful_P = record {
  states_least = omega arith;
  states_most = omega arith;
  start_in = omega arith;
  goal_in = omega arith;
  apart = λ e. omega arith;
  places_most = by_state (λ u. length (P.places u) ≤ 1023) (omega arith) (omega arith) (omega arith) (omega arith) (λ u h. omega (arith, no_places u h));
  outside = no_places;
  leads_in = λ l. (fair (cut_at l)).inside;
  leads_on = λ l. (fair (cut_at l)).apart;
  cost_least = λ l. (fair (cut_at l)).low;
  cost_most = λ l. (fair (cut_at l)).high;
  once = λ a b. one_place (cut_at a) (cut_at b);
  estimate_most = by_state (λ u. P.estimate u ≤ 1023000) (omega arith) (omega arith) (omega arith) (omega arith) (λ u h. omega (arith, no_estimate u h));
  outside_estimate = no_estimate;
  goal_estimate = refl;
  never_over = λ walk. under_walks refl walk;
}

-- THE LIVE STATES OF A STATE OF THE MACHINE

-- Beyond the four states all are unseen.
abbrev UnseenBeyond : (ℕ → Mark) → Type 0
UnseenBeyond mark = (u : ℕ) → 4 ≤ u → mark u ≡ unseen

-- They stay so where one of the four gets another mark.
beyond_put : (mark : ℕ → Mark) (v : ℕ) (x : Mark) → v < 4 → UnseenBeyond mark → UnseenBeyond (put mark v x)
beyond_put mark v x low old u h = put_other mark v x u (λ e. omega arith) ∙ old u h

-- Q holds of a state u so marked, if it is live under a limit.
abbrev IfLive : (ℕ → ℕ → Type 0) → ℕ → ℕ → Mark → Type 0
IfLive Q top u unseen = Unit {0}
IfLive Q top u (opened r) = sum P u r.g < top → Q u r.g
IfLive Q top u (closed r) = Unit {0}

-- What holds of each of the four, if it is live, holds of all live states.
all_live :
    (Q : ℕ → ℕ → Type 0) (s : State) → UnseenBeyond s.mark → IfLive Q (limit s) 0 (s.mark 0) → IfLive Q (limit s) 1 (s.mark 1)
    → IfLive Q (limit s) 2 (s.mark 2) → IfLive Q (limit s) 3 (s.mark 3) → (u g : ℕ) → Live P s u g → Q u g
all_live Q s beyond a b c d u g live = by_state (λ u. (g : ℕ) → Live P s u g → Q u g) (at 0 a) (at 1 b) (at 2 c) (at 3 d) out u g live
  where
    at : (u : ℕ) → IfLive Q (limit s) u (s.mark u) → (g : ℕ) → Live P s u g → Q u g
    at u says g live = (subst (IfLive Q (limit s) u) live.is_open says) live.below

    out : (u : ℕ) → 4 ≤ u → (g : ℕ) → Live P s u g → Q u g
    out u h g live = absurd (unseen_out s.mark u (beyond u h) (inl live.is_open))

-- THE STATES OF THE LIFE

-- The reaches by which states are seen.
abbrev start_reach : Reach
start_reach = record { g = 0; from = None }

-- 1 is reached at 30.
abbrev reach_1 : Reach
reach_1 = record { g = 30; from = Some 0 }

-- 2 is reached at 50.
abbrev reach_2 : Reach
reach_2 = record { g = 50; from = Some 0 }

-- Clamped: state 0 is open at 0.
abbrev at_0 : State
at_0 = raised_to (fresh P) 40

-- After ratio 3 2.
abbrev at_1 : State
at_1 = with_ratio at_0 3 2

-- The first move closes 0 ...
abbrev shut_1 : State
shut_1 = counted (marked at_1 0 (closed start_reach))

-- ... and opens 1 at 30 and 2 at 50.
abbrev open_1 : State
open_1 = marked shut_1 1 (opened reach_1)

abbrev after_1 : State
after_1 = marked open_1 2 (opened reach_2)

abbrev at_2 : State
at_2 = raised_to after_1 40

-- The second closes 1 and comes to the goal at 90.
abbrev shut_2 : State
shut_2 = counted (marked at_2 1 (closed reach_1))

abbrev after_2 : State
after_2 = stands shut_2 (0 ∷ 1 ∷ 3 ∷ []) 90

abbrev at_3 : State
at_3 = raised_to after_2 70

-- After ratio 1 1.
abbrev at_4 : State
at_4 = with_ratio at_3 1 1

-- The third closes 2 and comes to the goal at 70.
abbrev shut_3 : State
shut_3 = counted (marked at_4 2 (closed reach_2))

abbrev after_3 : State
after_3 = stands shut_3 (0 ∷ 2 ∷ 3 ∷ []) 70

abbrev at_5 : State
at_5 = raised_to after_3 70

-- In each of them all but the four states are unseen.
beyond_0 : UnseenBeyond at_0.mark
beyond_0 = beyond_put (λ u. unseen) 0 (opened start_reach) (omega arith) (λ u h. refl)

beyond_1 : UnseenBeyond after_1.mark
beyond_1 = beyond_put open_1.mark 2 (opened reach_2) (omega arith) (beyond_put shut_1.mark 1 (opened reach_1) (omega arith) (beyond_put at_1.mark 0 (closed start_reach) (omega arith) beyond_0))

beyond_2 : UnseenBeyond after_2.mark
beyond_2 = beyond_put at_2.mark 1 (closed reach_1) (omega arith) beyond_1

beyond_3 : UnseenBeyond after_3.mark
beyond_3 = beyond_put at_4.mark 2 (closed reach_2) (omega arith) beyond_2

-- THE LEAST SUMS

-- A state that is open by r, at a sum below the limit, is live.
live_at : (s : State) (u : ℕ) (r : Reach) → s.mark u ≡ opened r → sum P u r.g < limit s → Live P s u r.g
live_at s u r e low = record { from = r.from; is_open = e; below = low }

-- A sum of no less than f.
abbrev NoLess : ℕ → ℕ → ℕ → Type 0
NoLess f u g = f ≤ sum P u g

least_fresh : Least P (fresh P) 40
least_fresh = record { at = 0; at_g = 0; live = live_at (fresh P) 0 start_reach refl (omega arith); is = refl; none_less = all_live (NoLess 40) (fresh P) beyond_0 (λ h. omega arith) tt tt tt }

least_1 : Least P at_1 40
least_1 = record { at = 0; at_g = 0; live = live_at at_1 0 start_reach refl (omega arith); is = refl; none_less = all_live (NoLess 40) at_1 beyond_0 (λ h. omega arith) tt tt tt }

least_after_1 : Least P after_1 40
least_after_1 = record { at = 1; at_g = 30; live = live_at after_1 1 reach_1 refl (omega arith); is = refl; none_less = all_live (NoLess 40) after_1 beyond_1 tt (λ h. omega arith) (λ h. omega arith) tt }

least_2 : Least P at_2 40
least_2 = record { at = 1; at_g = 30; live = live_at at_2 1 reach_1 refl (omega arith); is = refl; none_less = all_live (NoLess 40) at_2 beyond_1 tt (λ h. omega arith) (λ h. omega arith) tt }

least_after_2 : Least P after_2 70
least_after_2 = record { at = 2; at_g = 50; live = live_at after_2 2 reach_2 refl (omega arith); is = refl; none_less = all_live (NoLess 70) after_2 beyond_2 tt tt (λ h. omega arith) tt }

least_4 : Least P at_4 70
least_4 = record { at = 2; at_g = 50; live = live_at at_4 2 reach_2 refl (omega arith); is = refl; none_less = all_live (NoLess 70) at_4 beyond_2 tt tt (λ h. omega arith) tt }

none_after_3 : NoLive P after_3
none_after_3 = all_live (λ u g. ⊥) after_3 beyond_3 tt tt tt tt

module _ (ord : Order) (ranks : LawfulRanks ord) where
  -- THE CHOICES

  -- A set of numbers ranks no later than itself.
  self : (s : State) (f u g : ℕ) → ord (numbers P s f u g) (numbers P s f u g) ≡ true
  self s f u g = elim (ranks.total (numbers P s f u g) (numbers P s f u g)) [ inl e ↦ e | inr e ↦ e ]

  -- n at g ranks no later than u at k, if u is near enough for the focal set.
  abbrev NotBefore : State → ℕ → ℕ → ℕ → ℕ → ℕ → Type 0
  NotBefore s f n g u k = sum P u k * s.q ≤ s.p * f → ord (numbers P s f n g) (numbers P s f u k) ≡ true

  chosen_1 : Chosen P ord at_1 40 0 0
  chosen_1 = record {
    focal = record { live = live_at at_1 0 start_reach refl (omega arith); near = omega arith };
    first = λ u k x. all_live (NotBefore at_1 40 0 0) at_1 beyond_0 (λ h n. self at_1 40 0 0) tt tt tt u k x.live x.near;
  }

  -- the sum of 2, 70, is more than 3/2 of 40
  chosen_2 : Chosen P ord at_2 40 1 30
  chosen_2 = record {
    focal = record { live = live_at at_2 1 reach_1 refl (omega arith); near = omega arith };
    first = λ u k x. all_live (NotBefore at_2 40 1 30) at_2 beyond_1 tt (λ h n. self at_2 40 1 30) (λ h n. absurd (omega arith)) tt u k x.live x.near;
  }

  chosen_4 : Chosen P ord at_4 70 2 50
  chosen_4 = record {
    focal = record { live = live_at at_4 2 reach_2 refl (omega arith); near = omega arith };
    first = λ u k x. all_live (NotBefore at_4 70 2 50) at_4 beyond_2 tt tt (λ h n. self at_4 70 2 50) tt u k x.live x.near;
  }

  -- THE MOVES

  move_1 : Move P ord at_1 at_2
  move_1 = move_from start_reach least_1 chosen_1 refl cuts (to_least least_after_1)
    where
      cuts : Cuts P 0 0 (P.places 0) shut_1 after_1
      cuts = next (opens (omega arith) (λ e. omega arith) tt) (next (opens (omega arith) (λ e. omega arith) tt) end)

  move_2 : Move P ord at_2 at_3
  move_2 = move_from reach_1 least_2 chosen_2 refl cuts (to_least least_after_2)
    where
      cuts : Cuts P 1 30 (P.places 1) shut_2 after_2
      cuts = next (arrives (omega arith) refl (link (inr refl) (root (inr refl))) (cut (record { place = 0; holds = refl }) (stay 1))) end

  move_3 : Move P ord at_4 at_5
  move_3 = move_from reach_2 least_4 chosen_4 refl cuts (to_limit none_after_3)
    where
      cuts : Cuts P 2 50 (P.places 2) shut_3 after_3
      cuts = next (arrives (omega arith) refl (link (inr refl) (root (inr refl))) (cut (record { place = 1; holds = refl }) (stay 2))) end

  -- THE CALLS

  -- Both ratios may be set.
  allowed_3_2 : Allowed 3 2
  allowed_3_2 = record { low = omega arith; order = omega arith; high = omega arith }

  allowed_1_1 : Allowed 1 1
  allowed_1_1 = record { low = omega arith; order = omega arith; high = omega arith }

  -- The budget of 1 is spent.
  work_1 : Works P ord 1 at_1 spent 1 at_2
  work_1 = goes_on (λ f. omega arith) (none_met refl) move_1 (is_spent (λ f. omega arith) (none_met refl))

  -- 90 times 2 is at most 3 times 70.
  work_2 : Works P ord 2 at_2 met 1 at_3
  work_2 = goes_on (λ f. omega arith) (none_met refl) move_2 (is_met (λ f. omega arith) (record { route = _; stands = refl; within = omega arith; near = omega arith }))

  -- 90 is more than 70, and then the floor has come up to 70.
  work_5 : Works P ord 5 at_4 done 1 at_5
  work_5 = goes_on (λ f. omega arith) (far_met refl (λ x. let near = x.1 in omega arith)) move_3 (is_done (omega arith))

  -- A call of work with rows for the four states and a small budget.
  works_4 : {b k : ℕ} {w : Word} {s z : State} → b ≤ 65535 → Works P ord b s w k z → Does P ord s (work b 4 4) (worked w k) z
  works_4 few ws = works (omega arith) (omega arith) few ws

  -- Its life up to show: ratio 3 2, work 1, work 2.
  first_half : Life P ord ((work 2 4 4, worked met 1) ∷ (work 1 4 4, worked spent 1) ∷ (ratio 3 2, set) ∷ []) at_3
  first_half = then (then (then (clamped (to_least least_fresh)) (agrees allowed_3_2)) (works_4 (omega arith) work_1)) (works_4 (omega arith) work_2)

  -- And all of it: show, ratio 1 1, work 5, route, and a work that is refused.
  life_of_P : Life P ord calls_of_P at_5
  life_of_P = then (then (then (then (then first_half shows) (agrees allowed_1_1)) (works_4 (omega arith) work_5)) (tells refl (omega arith))) (over_budget (omega arith) (omega arith) (omega arith))

-- P is lawful, and its life is one.
pub worked_out : WorkedOut
worked_out = record { lawful = lawful_P; life = λ ord ranks. (at_5, life_of_P ord ranks) }
