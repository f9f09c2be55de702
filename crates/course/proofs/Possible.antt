-- Every step can be made: there is a least sum or no live state, the focal set has a first, every place does something, the floor rises,
-- a move can be made while the floor is below the limit, and a work comes to its end.
use Rattle.std.proofs.Common.{◌≡◌, ℕ, zero, suc, ◌*◌, ◌<◌, ◌≤◌, true, ◌⊎◌, List, [], ◌∷◌, Some, None, Option, sym, refl, ap, subst, inl, inr, mul-le-mul_right, mul_comm, arith}
use native.Mathlib.Decide.{dec_le}
use Rattle.std.proofs.lemmas.Bool.{cases_lt, cases_eq}
use Rattle.course.specs.Blanks.{join, Meaning, Lawful}
use Rattle.course.specs.Machine.{Reach, Mark, unseen, opened, closed, Standing, State, limit, sum, Live, Least, NoLive, Focal, numbers, Order, LawfulRanks, Chosen, News, Tried, empty, dear, arrives, opens, keeps, Cuts, end, next, Raised, to_least, to_limit, Move}
use Rattle.course.specs.Calls.{Word, done, met, spent, Finished, Met, Works, is_done, is_met, is_spent, goes_on, Allowed}
use Rattle.course.proofs.Found.{Ordered, first_below}
use Rattle.course.proofs.Moves.{Kept, During, during_walked, tried_keeps, closes, cuts_keep}
use Rattle.course.proofs.Floor.{Held, live_in, moved_held}
use Rattle.course.proofs.Outcomes.{one_live}
use Rattle.course.proofs.Cuts.{move_from}
use Rattle.course.proofs.Courses.{move_allowed}

-- LIVE STATES AND THE LEAST SUM

-- A state is live at one cost.
live_once : {m : Meaning} {s : State} {u g h : ℕ} → Live m s u g → Live m s u h → g ≡ h
live_once a b = ap (λ (r : Reach). r.g) (one_live a b refl)

-- A state is live or not.
pub live_decided : (m : Meaning) (s : State) (u : ℕ) → ((g : ℕ) × Live m s u g) ⊎ ((g : ℕ) → Live m s u g → ⊥)
live_decided m s u = go (s.mark u) refl
  where
    not_open : {x : Mark} → s.mark u ≡ x → ((r : Reach) → x ≡ opened r → ⊥) → (g : ℕ) → Live m s u g → ⊥
    not_open e apart g live = let o = live.is_open in apart (record { g = g; from = live.from }) (cc)

    go : (x : Mark) → s.mark u ≡ x → ((g : ℕ) × Live m s u g) ⊎ ((g : ℕ) → Live m s u g → ⊥)
    go unseen e = inr (not_open e (λ r k. let no_way : ◌≡◌ {A = ℕ} 0 1 = cc in omega arith))
    go (closed q) e = inr (not_open e (λ r k. let no_way : ◌≡◌ {A = ℕ} 0 1 = cc in omega arith))
    go (opened r) e = elim (cases_lt (sum m u r.g) (limit s)) [
      | inl low ↦ inl (r.g, record { from = r.from; is_open = e; below = low })
      | inr high ↦ inr (λ g live. let o = live.is_open in
          let same : r ≡ record { g = g; from = live.from } = cc in
          omega (arith, ap (λ (x : Reach). x.g) same, live.below))
    ]

-- The live states in the order of their sums.
sums_ordered : (m : Meaning) (s : State) → Ordered (Live m s) (λ u g v h. sum m u g ≤ sum m v h)
sums_ordered m s = record {
  decide = live_decided m s;
  once = λ u g h a b. live_once a b;
  total = λ u g v h. elim (cases_lt (sum m u g) (sum m v h)) [ inl low ↦ inl (omega arith) | inr high ↦ inr high ];
  onward = λ u g v h w k a b. omega arith;
}

-- There is a least sum, or no live state.
pub least_or_none : {m : Meaning} {s : State} → Lawful m → Kept m s → ((f : ℕ) × Least m s f) ⊎ NoLive m s
least_or_none {m} {s} law kept = elim (first_below (sums_ordered m s) m.states) [
  | inl x ↦ inl (sum m x.u x.g, record { at = x.u; at_g = x.g; live = x.holds; is = refl; none_less = λ v h live. x.first v h (live_in law kept live) live })
  | inr none ↦ inr (λ v h live. none v h (live_in law kept live) live)
]

-- The floor can be raised.
pub raised_some : {m : Meaning} {s : State} → Lawful m → Kept m s → (z : State) × Raised m s z
raised_some law kept = elim (least_or_none law kept) [ inl x ↦ (_, to_least x.1) | inr none ↦ (_, to_limit none) ]

-- THE FOCAL SET AND ITS FIRST

-- A state is in the focal set or not.
pub focal_decided : (m : Meaning) (s : State) (f u : ℕ) → ((g : ℕ) × Focal m s f u g) ⊎ ((g : ℕ) → Focal m s f u g → ⊥)
focal_decided m s f u = go (live_decided m s u)
  where
    go : ((g : ℕ) × Live m s u g) ⊎ ((g : ℕ) → Live m s u g → ⊥) → ((g : ℕ) × Focal m s f u g) ⊎ ((g : ℕ) → Focal m s f u g → ⊥)
    go (inr none) = inr (λ g focal. none g focal.live)
    go (inl x) = elim (dec_le (sum m u x.0 * s.q) (s.p * f)) [
      | yes near ↦ inl (x.0, record { live = x.1; near = near })
      | no far ↦ inr (λ g focal. far (subst (λ (k : ℕ). sum m u k * s.q ≤ s.p * f) (live_once focal.live x.1) focal.near))
    ]

-- The focal set in the order of its ranks.
ranks_ordered :
    {ord : Order} → LawfulRanks ord → (m : Meaning) (s : State) (f : ℕ)
    → Ordered (Focal m s f) (λ u g v h. ord (numbers m s f u g) (numbers m s f v h) ≡ true)
ranks_ordered ranks m s f = record {
  decide = focal_decided m s f;
  once = λ u g h a b. live_once a.live b.live;
  total = λ u g v h. ranks.total (numbers m s f u g) (numbers m s f v h);
  onward = λ u g v h w k. ranks.onward (numbers m s f u g) (numbers m s f v h) (numbers m s f w k);
}

-- The state of the least sum is in the focal set.
least_focal : {m : Meaning} {s : State} {f : ℕ} → Allowed s.p s.q → (x : Least m s f) → Focal m s f x.at x.at_g
least_focal {m} {s} {f} allowed x = record {
  live = x.live;
  near = subst (λ (k : ℕ). k * s.q ≤ s.p * f) (sym x.is) (rw (mul_comm f s.q) (mul-le-mul_right f allowed.order));
}

-- So the focal set has a first.
pub chosen_some :
    {m : Meaning} {ord : Order} {s : State} {f : ℕ} → Lawful m → LawfulRanks ord → Kept m s → Allowed s.p s.q → Least m s f
    → (n : ℕ) × (g : ℕ) × Chosen m ord s f n g
chosen_some {m} {s = s} {f = f} law ranks kept allowed x = elim (first_below (ranks_ordered ranks m s f) m.states) [
  | inl c ↦ (c.u, c.g, record { focal = c.holds; first = λ v h focal. c.first v h (live_in law kept focal.live) focal })
  | inr none ↦ absurd (none x.at x.at_g (live_in law kept x.live) (least_focal allowed x))
]

-- THE PLACES

-- News or not.
pub news_decided : (x : Mark) (t : ℕ) → News x t ⊎ (News x t → ⊥)
news_decided unseen t = inl tt
news_decided (opened r) t = elim (cases_lt t r.g) [ inl low ↦ inl low | inr high ↦ inr (λ low. omega arith) ]
news_decided (closed r) t = elim (cases_lt t r.g) [ inl low ↦ inl low | inr high ↦ inr (λ low. omega arith) ]

-- A place that is tried does one of the five things.
pub tried_some :
    {m : Meaning} {n g : ℕ} {ps : List (Option (ℕ × ℕ))} {s : State} → Lawful m → (x : Option (ℕ × ℕ)) → During m n g (x ∷ ps) s
    → (z : State) × Tried m n g x s z
tried_some law None now = (_, empty)
tried_some {m} {n} {g} {s = s} law (Some cut) now = elim (cases_lt (sum m cut.0 (join g cut.1)) (limit s)) [
  | inr high ↦ (_, dear high)
  | inl low ↦ elim (cases_eq cut.0 m.goal) [
    | inl home ↦ let w = during_walked law now in (_, arrives low home w.chain w.walk)
    | inr apart ↦ elim (news_decided (s.mark cut.0) (join g cut.1)) [
      | inl news ↦ (_, opens low apart news)
      | inr old ↦ (_, keeps low apart old)
    ]
  ]
]

-- So do places that are tried one after the other.
pub cuts_some : {m : Meaning} {n g : ℕ} → Lawful m → (ps : List (Option (ℕ × ℕ))) {s : State} → During m n g ps s → (z : State) × Cuts m n g ps s z
cuts_some law [] now = (_, end)
cuts_some law (x ∷ ps) now =
    let t = tried_some law x now in
    let rest = cuts_some law ps (tried_keeps law now t.1) in
    (rest.0, next t.1 rest.1)

-- THE MOVE AND THE WORK

-- While the floor is below the limit a move can be made.
pub move_some :
    {m : Meaning} {ord : Order} {s : State} → Lawful m → LawfulRanks ord → Held m s → Allowed s.p s.q → s.floor < limit s
    → (z : State) × Move m ord s z
move_some {m} {ord} {s} law ranks held allowed low = at (least_or_none law held.kept)
  where
    at : ((f : ℕ) × Least m s f) ⊎ NoLive m s → (z : State) × Move m ord s z
    at (inr none) = let k = held.some_live low in absurd (none k.0 k.1 k.2)
    at (inl x) =
        let c = chosen_some law ranks held.kept allowed x.1 in
        let live = c.2.focal.live in
        let r : Reach = record { g = c.1; from = live.from } in
        let shut = closes m s c.0 r live.is_open held.kept held.settled in
        let cuts = cuts_some law (m.places c.0) shut in
        let raised = raised_some law (cuts_keep law shut cuts.1).kept in
        (raised.0, move_from r x.1 c.2 live.is_open cuts.1 raised.1)

-- The ratio is not met where no route stands.
pub none_met : {s : State} → s.standing ≡ None → Met s → ⊥
none_met e x = let stands = x.stands in let no_way : ◌≡◌ {A = ℕ} 0 1 = cc in omega arith

-- Nor where the standing route is not within the ceiling, or costs too much.
pub far_met : {s : State} {r : Standing} → s.standing ≡ Some r → ((r.cost ≤ s.ceiling) × (r.cost * s.q ≤ s.p * s.floor) → ⊥) → Met s → ⊥
far_met {s} {r} e far x =
    let stands = x.stands in
    let same : x.route ≡ r = cc in
    far (subst (λ (k : Standing). (k.cost ≤ s.ceiling) × (k.cost * s.q ≤ s.p * s.floor)) same (x.within, x.near))

-- The ratio is met or not.
pub met_decided : (s : State) → Met s ⊎ (Met s → ⊥)
met_decided s = go s.standing refl
  where
    go : (o : Option Standing) → s.standing ≡ o → Met s ⊎ (Met s → ⊥)
    go None e = inr (none_met e)
    go (Some r) e = elim (dec_le r.cost s.ceiling) [
      | no above ↦ inr (far_met e (λ x. above x.0))
      | yes within ↦ elim (dec_le (r.cost * s.q) (s.p * s.floor)) [
        | yes near ↦ inl (record { route = r; stands = e; within = within; near = near })
        | no beyond ↦ inr (far_met e (λ x. beyond x.1))
      ]
    ]

-- What a work at a budget comes to: its word, the moves that it makes, and the state where it stops.
pub record Outcome (m : Meaning) (ord : Order) (b : ℕ) (s : State) : Type 0 where
  pub word : Word
  pub count : ℕ
  pub left : State
  pub works : Works m ord b s word count left

-- A work looks, and stops or goes on as it may.
looks : {m : Meaning} {ord : Order} (b : ℕ) (s : State) → ((Finished s → ⊥) → (Met s → ⊥) → Outcome m ord b s) → Outcome m ord b s
looks {m} {ord} b s on = at (dec_le (limit s) s.floor) (met_decided s)
  where
    at : Dec (Finished s) → Met s ⊎ (Met s → ⊥) → Outcome m ord b s
    at (yes f) n = record { word = done; count = 0; left = s; works = is_done f }
    at (no f) (inl n) = record { word = met; count = 0; left = s; works = is_met f n }
    at (no f) (inr n) = on f n

-- A work comes to an end.
pub works_some :
    {m : Meaning} {ord : Order} → Lawful m → LawfulRanks ord → (b : ℕ) {s : State} → Held m s → Allowed s.p s.q → Outcome m ord b s
works_some law ranks zero {s} held allowed = looks 0 s (λ f n. record { word = spent; count = 0; left = s; works = is_spent f n })
works_some law ranks (suc b) {s} held allowed = looks (suc b) s (λ f n.
    let x = move_some law ranks held allowed (omega arith) in
    let rest = works_some law ranks b (moved_held law held x.1) (move_allowed x.1 allowed) in
    record { word = rest.word; count = suc rest.count; left = rest.left; works = goes_on f n x.1 rest.works })
