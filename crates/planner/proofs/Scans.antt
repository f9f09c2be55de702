-- A scan for the least sum, state by state.
use Rattle.std.proofs.Common.{◌≡◌, ℕ, zero, suc, ◌+◌, ◌<◌, ◌≤◌, min, max, ltb, Bool, true, false, cond, ◌⊎◌, List, [], Some, None, Option, unwrap_or, sym, refl, ap, ◌∙◌, subst, subst₂, inl, inr, arith, below_more, MatchOption}
use Rattle.std.proofs.lemmas.Bool.{cases_lt, ltb-true, ltb-false}
use Rattle.std.specs.List.{reduce, fold, filter_map, cons_option, range_with_len}
use Rattle.course.specs.declared.machine.Reach.{Reach}
use Rattle.course.specs.declared.machine.Mark.{Mark}
use Rattle.course.specs.Blanks.{join, Meaning}
use Rattle.course.specs.declared.machine.Mark.TheVariants.{Unseen, Open, Closed}
use Rattle.course.specs.Machine.{State, limit, raised_to, sum, Live, Least, NoLive, Raised, to_least, to_limit}
use Rattle.planner.specs.Scans.{Inside, FoundLeast, NoneBelow, LeastBelow}

-- What has been found below n.
abbrev pub Scanned : Meaning → State → ℕ → Option ℕ → Type 0
Scanned m s n best = MatchOption best (NoneBelow m s n) (LeastBelow m s n)

-- A state is live at one cost.
pub live_one : {m : Meaning} {s : State} {u a b : ℕ} → Live m s u a → Live m s u b → a ≡ b
live_one {a = a} {b = b} x y =
    let e = x.is_open in
    let k = y.is_open in
    let same : ◌≡◌ {A = Reach} (record { g = a; from = x.from }) (record { g = b; from = y.from }) = cc in
    ap (λ (r : Reach). r.g) same

module _ {m : Meaning} {s : State} {i : ℕ} where
  -- The next state is not live.
  pub scan_dead : (best : Option ℕ) → ((g : ℕ) → Live m s i g → ⊥) → Scanned m s i best → Scanned m s (i + 1) best
  scan_dead None dead none = λ u g. below_more (λ u. Live m s u g → ⊥) i (λ u low. none u g low) (dead g) u
  scan_dead (Some f) dead least = record {
    at = least.at;
    at_g = least.at_g;
    live = least.live;
    is = least.is;
    none_less = λ u g. below_more (λ u. Live m s u g → f ≤ sum m u g) i (λ u low. least.none_less u g low) (λ live. absurd (dead g live)) u;
  }

  -- It is live, and its sum is no less than the least so far.
  pub scan_keeps : {g f : ℕ} → Live m s i g → f ≤ sum m i g → LeastBelow m s i f → LeastBelow m s (i + 1) f
  scan_keeps {g} {f} live high least = record {
    at = least.at;
    at_g = least.at_g;
    live = least.live;
    is = least.is;
    none_less = λ u k. below_more (λ u. Live m s u k → f ≤ sum m u k) i (λ u low. least.none_less u k low) (λ other. omega (arith, live_one live other)) u;
  }

  -- It is live, and its sum is the least so far.
  pub scan_takes : {g : ℕ} (best : Option ℕ) → Live m s i g → ((f : ℕ) → best ≡ Some f → sum m i g ≤ f) → Scanned m s i best → LeastBelow m s (i + 1) (sum m i g)
  scan_takes {g} None live low none = record {
    at = i;
    at_g = g;
    live = live;
    is = refl;
    none_less = λ u k. below_more (λ u. Live m s u k → sum m i g ≤ sum m u k) i (λ u low other. absurd (none u k low other)) (λ other. omega (arith, live_one live other)) u;
  }
  scan_takes {g} (Some f) live low least = record {
    at = i;
    at_g = g;
    live = live;
    is = refl;
    none_less = λ u k. below_more (λ u. Live m s u k → sum m i g ≤ sum m u k) i (λ u below other. omega (arith, low f refl, least.none_less u k below other)) (λ other. omega (arith, live_one live other)) u;
  }

-- The next state is live, and the lesser of its sum and the least so far is the least.
pub scan_live : {m : Meaning} {s : State} {i g r t : ℕ} (best : Option ℕ) → Live m s i g → t ≡ sum m i g → MatchOption best (r ≡ t) (λ f. r ≡ min f t) → Scanned m s i best → LeastBelow m s (i + 1) r
scan_live {m} {s} {i} None live total is none = subst (λ (x : ℕ). LeastBelow m s (i + 1) x) (sym (is ∙ total)) (scan_takes None live (λ f e. no_some e) none)
  where
    no_some : {A : Type 0} {f : ℕ} → ◌≡◌ {A = Option ℕ} None (Some f) → A
    no_some e = let no_way : ◌≡◌ {A = ℕ} 0 1 = cc in absurd (omega arith)
scan_live {m} {s} {i} {g} {r} (Some f) live total is least = at (cases_lt (sum m i g) f)
  where
    at : (sum m i g < f) ⊎ (f ≤ sum m i g) → LeastBelow m s (i + 1) r
    at (inl low) =
        let e : sum m i g ≡ r = omega arith in
        subst (λ (x : ℕ). LeastBelow m s (i + 1) x) e (scan_takes (Some f) live (λ k q. let same : f ≡ k = cc in omega arith) least)
    at (inr high) =
        let e : f ≡ r = omega arith in
        subst (λ (x : ℕ). LeastBelow m s (i + 1) x) e (scan_keeps live high least)

-- The sum of a state, where it is live, by the limit, its estimate and its mark.
abbrev sum_at : ℕ → ℕ → Mark → Option ℕ
sum_at top h Unseen = None
sum_at top h (Open r) = cond (ltb (join r.g h) top) (Some (join r.g h)) None
sum_at top h (Closed r) = None

abbrev pub live_sum : Meaning → State → ℕ → Option ℕ
live_sum m s u = sum_at (limit s) (m.estimate u) (s.mark u)

-- What a scan finds of a state.
abbrev pub FoundSum : Meaning → State → ℕ → Option ℕ → Type 0
FoundSum m s u found = MatchOption found ((g : ℕ) → Live m s u g → ⊥) (λ f. (g : ℕ) × Live m s u g × (f ≡ sum m u g))

-- What is open is so by one reach.
open_one : {x : Mark} {r t : Reach} → x ≡ Open r → x ≡ Open t → r ≡ t
open_one e k = let same = sym e ∙ k in cc

-- It is found.
pub live_sum_found : (m : Meaning) (s : State) (u : ℕ) → FoundSum m s u (live_sum m s u)
live_sum_found m s u = at (s.mark u) refl
  where
    at : (x : Mark) → s.mark u ≡ x → FoundSum m s u (sum_at (limit s) (m.estimate u) x)
    at Unseen e = λ g live. let no = sym e ∙ live.is_open in let no_way : ◌≡◌ {A = ℕ} 0 1 = cc in omega arith
    at (Open r) e = by (ltb (join r.g (m.estimate u)) (limit s)) refl
      where
        by : (b : Bool) → ltb (join r.g (m.estimate u)) (limit s) ≡ b → FoundSum m s u (cond b (Some (join r.g (m.estimate u))) None)
        by true low = (r.g, record { from = r.from; is_open = e; below = ltb-true _ _ low }, refl)
        by false high = λ g live. omega (arith, live.below, ltb-false _ _ high, ap (λ (t : Reach). t.g) (open_one e live.is_open))
    at (Closed r) e = λ g live. let no = sym e ∙ live.is_open in let no_way : ◌≡◌ {A = ℕ} 0 1 = cc in omega arith

-- And nothing else is.
pub live_sum_is : (m : Meaning) (s : State) (u : ℕ) (found : Option ℕ) → FoundSum m s u found → found ≡ live_sum m s u
live_sum_is m s u found is = same found (live_sum m s u) is (live_sum_found m s u)
  where
    same : (x y : Option ℕ) → FoundSum m s u x → FoundSum m s u y → x ≡ y
    same None None a b = refl
    same None (Some f) a b = absurd (a b.0 b.1)
    same (Some f) None a b = absurd (b a.0 a.1)
    same (Some f) (Some k) a b = ap Some (omega (arith, a.2, b.2, ap (sum m u) (live_one a.1 b.1)))

-- A state more, by what is found of it.
abbrev lesser : Option ℕ → Option ℕ → Option ℕ
lesser best None = best
lesser None (Some f) = Some f
lesser (Some b) (Some f) = Some (min b f)

scan_more : (m : Meaning) (s : State) (i : ℕ) (best found : Option ℕ) → FoundSum m s i found → Scanned m s i best → Scanned m s (i + 1) (lesser best found)
scan_more m s i best None dead now = scan_dead best dead now
scan_more m s i None (Some f) live now = scan_live None live.1 live.2 refl now
scan_more m s i (Some b) (Some f) live now = scan_live (Some b) live.1 live.2 refl now

-- The least of these sums and the best so far.
abbrev least_from : Option ℕ → List ℕ → Option ℕ
least_from None sums = reduce min sums
least_from (Some b) sums = Some (fold min b sums)

least_none : (best : Option ℕ) → best ≡ least_from best []
least_none None = refl
least_none (Some b) = refl

least_more : (best found : Option ℕ) (sums : List ℕ) → least_from (lesser best found) sums ≡ least_from best (cons_option found sums)
least_more best None sums = refl
least_more None (Some f) sums = refl
least_more (Some b) (Some f) sums = refl

-- All states from i on, n of them.
pub scan_all : (m : Meaning) (s : State) (n i : ℕ) (best : Option ℕ) → Scanned m s i best → Scanned m s (i + n) (least_from best (filter_map (live_sum m s) (range_with_len i n)))
scan_all m s zero i best now = subst₂ (λ (k : ℕ) (o : Option ℕ). Scanned m s k o) (omega arith) (least_none best) now
scan_all m s (suc n) i best now =
    subst₂ (λ (k : ℕ) (o : Option ℕ). Scanned m s k o) (omega arith) (least_more best (live_sum m s i) (filter_map (live_sum m s) (range_with_len (i + 1) n)))
    (scan_all m s n (i + 1) (lesser best (live_sum m s i)) (scan_more m s i best (live_sum m s i) (live_sum_found m s i) now))

-- All states of the graph have been scanned, and every open state is one of them.
pub scan_ends : (m : Meaning) (s : State) {n : ℕ} (best : Option ℕ) → n ≡ m.states → Inside m s → Scanned m s n best → MatchOption best (NoLive m s) (Least m s)
scan_ends m s None all inside none = λ u g live. none u g (omega (arith, inside u _ live.is_open)) live
scan_ends m s (Some f) all inside least = record { at = least.at; at_g = least.at_g; live = least.live; is = least.is; none_less = λ u g live. least.none_less u g (omega (arith, inside u _ live.is_open)) live }

-- The floor that the scan's answer raises it to: by the least sum, or by the limit where no state is live.
pub raised_by : (m : Meaning) (s : State) (least : Option ℕ) {floor : ℕ} → FoundLeast m s least → floor ≡ max s.floor (min (unwrap_or least (limit s)) (limit s)) → Raised m s (raised_to s floor)
raised_by m s None none e = subst (λ (x : ℕ). Raised m s (raised_to s x)) (sym (omega (arith, e))) (to_limit none)
raised_by m s (Some f) least e = subst (λ (x : ℕ). Raised m s (raised_to s x)) (sym (omega (arith, e))) (to_least least)
