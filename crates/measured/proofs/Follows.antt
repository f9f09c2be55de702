-- The computed machine follows the rules.
use Rattle.std.proofs.Common.{◌≡◌, ℕ, zero, suc, ◌*◌, ◌<◌, ◌≤◌, min, true, false, not, ◌&&◌, ◌||◌, eqb, ltb, leb, ◌⊎◌, List, [], ◌∷◌, ◌++◌, length, get_or, Some, None, Option, sym, refl, ap, ◌∙◌, subst, ap₂, subst₂, inl, inr, arith, length-append}
use Rattle.std.proofs.lemmas.Bool.{cases_eq, cases_Bool, cond-true, cond-false, cond_both, cases_lt, lt-ltb, ltb-true, ltb-false, eqb-true, eqb-false, eq-eqb, ne_eqb, leb-true, leb-false, and_parts, or_cases, not-true}
use Rattle.course.specs.declared.machine.Reach.{Reach}
use Rattle.course.specs.declared.machine.Mark.{Mark}
use Rattle.course.specs.declared.machine.Mark.TheVariants.{Unseen as unseen, Open as opened, Closed as closed}
use Rattle.course.specs.Blanks.{join, Meaning, Leads, Walk, stay, cut, Lawful}
use Rattle.course.specs.Machine.{State, limit, stands, sum, Live, Least, numbers, Order, LawfulRanks, Chosen, Seen, Chain, root, link, News, Tried, empty, dear, arrives, opens, keeps, Cuts, end, next, Raised, to_least, to_limit, Move}
use Rattle.course.proofs.Walks.{one_cut}
use Rattle.course.proofs.Lengths.{chain_short}
use Rattle.course.proofs.Moves.{Kept, During, during_walked, tried_keeps, closes, cuts_keep}
use Rattle.course.proofs.Floor.{Held, live_in}
use Rattle.course.proofs.Outcomes.{one_live}
use Rattle.measured.proofs.Computed.{live_sum, smaller, least, raise_to, raise, came_from, at_end, chain_of, cost_to, cost_along, newer, try, try_all, move_at, apart, alone, chosen}

-- SUMS AND THE FLOOR

module _ (m : Meaning) (s : State) where
  -- A live state has its sum.
  live_summed : {u g : ℕ} → Live m s u g → live_sum m (limit s) u (s.mark u) ≡ Some (sum m u g)
  live_summed {u} {g} live =
      ap (live_sum m (limit s) u) live.is_open ∙ cond-true (ltb (sum m u g) (limit s)) (Some (sum m u g)) None (lt-ltb (sum m u g) (limit s) live.below)

  -- A live state with the sum f.
  record HasSum (f : ℕ) : Type 0 where
    at : ℕ
    at_g : ℕ
    live : Live m s at at_g
    is : sum m at at_g ≡ f

  -- A state that has a sum is live.
  summed_live : (u : ℕ) (x : Mark) {f : ℕ} → s.mark u ≡ x → live_sum m (limit s) u x ≡ Some f → HasSum f
  summed_live u unseen e h = absurd (let no_way : ◌≡◌ {A = ℕ} 0 1 = cc in omega arith)
  summed_live u (closed r) e h = absurd (let no_way : ◌≡◌ {A = ℕ} 0 1 = cc in omega arith)
  summed_live u (opened r) {f} e h = at (cases_Bool (ltb (sum m u r.g) (limit s)))
    where
      at : (ltb (sum m u r.g) (limit s) ≡ true) ⊎ (ltb (sum m u r.g) (limit s) ≡ false) → HasSum f
      at (inl low) =
          let k = cond-true (ltb (sum m u r.g) (limit s)) (Some (sum m u r.g)) None low in
          record { at = u; at_g = r.g; live = record { from = r.from; is_open = e; below = ltb-true (sum m u r.g) (limit s) low }; is = cc }
      at (inr high) =
          let k = cond-false (ltb (sum m u r.g) (limit s)) (Some (sum m u r.g)) None high in
          absurd (let no_way : ◌≡◌ {A = ℕ} 0 1 = cc in omega arith)

  -- What a least sum says of the live states below k.
  abbrev Says : ℕ → Option ℕ → Type 0
  Says k None = (u g : ℕ) → u < k → Live m s u g → ⊥
  Says k (Some f) = HasSum f × ((u g : ℕ) → u < k → Live m s u g → f ≤ sum m u g)

  -- A live state k has its sum.
  summed_here : (k : ℕ) {u g : ℕ} → u ≡ k → Live m s u g → live_sum m (limit s) k (s.mark k) ≡ Some (sum m u g)
  summed_here k {u} {g} same live = subst (λ (v : ℕ). live_sum m (limit s) v (s.mark v) ≡ Some (sum m u g)) same (live_summed live)

  -- One more state, with its sum, if it has one.
  says_more : (k : ℕ) (x y : Option ℕ) → live_sum m (limit s) k (s.mark k) ≡ x → Says k y → Says (suc k) (smaller x y)
  says_more k None None e none = λ u g low live. elim (cases_eq u k) [
    | inl same ↦ let h = summed_here k same live in let no_way : ◌≡◌ {A = ℕ} 0 1 = cc in omega arith
    | inr other ↦ none u g (omega arith) live
  ]
  says_more k None (Some f) e old = (
    old.0,
    λ u g low live. elim (cases_eq u k) [
      | inl same ↦ let h = summed_here k same live in let no_way : ◌≡◌ {A = ℕ} 0 1 = cc in absurd (omega arith)
      | inr other ↦ old.1 u g (omega arith) live
    ],
  )
  says_more k (Some f) None e none = (
    summed_live k (s.mark k) refl e,
    λ u g low live. elim (cases_eq u k) [
      | inl same ↦ let h = summed_here k same live in let is : f ≡ sum m u g = cc in omega arith
      | inr other ↦ absurd (none u g (omega arith) live)
    ],
  )
  says_more k (Some f) (Some d) e old = (
    both,
    λ u g low live. elim (cases_eq u k) [
      | inl same ↦ let h = summed_here k same live in let is : f ≡ sum m u g = cc in omega arith
      | inr other ↦ omega (arith, old.1 u g (omega arith) live)
    ],
  )
    where
      both : HasSum (min f d)
      both = elim (cases_lt f d) [
        | inl low ↦ let x = summed_live k (s.mark k) refl e in record { at = x.at; at_g = x.at_g; live = x.live; is = omega (arith, x.is) }
        | inr high ↦ let x = old.0 in record { at = x.at; at_g = x.at_g; live = x.live; is = omega (arith, x.is) }
      ]

  -- The computed least sum says so.
  least_says : (k : ℕ) → Says k (least m s k)
  least_says zero = λ u g low live. omega arith
  least_says (suc k) = says_more k (live_sum m (limit s) k (s.mark k)) (least m s k) refl (least_says k)

  -- The computed floor is the one that the rules raise.
  pub raises : Lawful m → Kept m s → Raised m s (raise m s)
  raises law kept = at (least m s m.states) (least_says m.states)
    where
      at : (x : Option ℕ) → Says m.states x → Raised m s (raise_to s x)
      at None none = to_limit (λ u g live. none u g (live_in law kept live) live)
      at (Some f) (x, least) =
          to_least (record { at = x.at; at_g = x.at_g; live = x.live; is = x.is; none_less = λ u g live. least u g (live_in law kept live) live })

-- CHAINS, COSTS AND NEWS

-- Where a seen state came from.
seen_from : (mark : ℕ → Mark) (u : ℕ) {r : Reach} → Seen mark u r → came_from (mark u) ≡ r.from
seen_from mark u (inl e) = ap came_from e
seen_from mark u (inr e) = ap came_from e

-- The computed chain is the chain.
chain_computed : {mark : ℕ → Mark} {u : ℕ} {path : List ℕ} → Chain mark u path → (k : ℕ) → length path ≤ k → chain_of mark k u ≡ path
chain_computed (root seen) zero h = absurd (omega arith)
chain_computed {mark} {u} (root seen) (suc k) h = ap (at_end (chain_of mark k) u) (seen_from mark u seen)
chain_computed (link {v = v} {path = path} seen chain) zero h = absurd (omega (arith, length-append path (v ∷ [])))
chain_computed {mark} (link {v = v} {path = path} seen chain) (suc k) h =
    ap (at_end (chain_of mark k) v) (seen_from mark v seen) ∙ ap (λ (l : List ℕ). l ++ v ∷ []) (chain_computed chain k (omega (arith, length-append path (v ∷ []))))

-- Some place holds the cut of the computed cost.
record HeldAt (v : ℕ) (xs : List (Option (ℕ × ℕ))) : Type 0 where
  place : ℕ
  holds : get_or xs place None ≡ Some (v, cost_to v xs)

-- The first place holds a cut to v.
found_first : {v : ℕ} (x : ℕ × ℕ) (xs : List (Option (ℕ × ℕ))) → x.0 ≡ v → HeldAt v (Some x ∷ xs)
found_first {v} x xs to = record {
  place = 0;
  holds = ap₂ (λ (a b : ℕ). Some (a, b)) to (sym (cond-true (eqb x.0 v) x.1 (cost_to v xs) (eq-eqb x.0 v to)));
}

-- Or it does not, and a later place does.
found_later : {v : ℕ} (x : ℕ × ℕ) (xs : List (Option (ℕ × ℕ))) → HeldAt v xs → HeldAt v (Some x ∷ xs)
found_later {v} x xs y = elim (cases_eq x.0 v) [
  | inl to ↦ found_first x xs to
  | inr other ↦ record {
    place = suc y.place;
    holds = y.holds ∙ ap (λ (a : ℕ). Some (v, a)) (sym (cond-false (eqb x.0 v) x.1 (cost_to v xs) (ne_eqb x.0 v other)));
  }
]

-- So it does where some place holds a cut to v.
cost_held : (xs : List (Option (ℕ × ℕ))) (i : ℕ) {v c : ℕ} → get_or xs i None ≡ Some (v, c) → HeldAt v xs
cost_held [] i e = absurd (let no_way : ◌≡◌ {A = ℕ} 0 1 = cc in omega arith)
cost_held (None ∷ xs) zero e = absurd (let no_way : ◌≡◌ {A = ℕ} 0 1 = cc in omega arith)
cost_held (None ∷ xs) (suc i) e = let x = cost_held xs i e in record { place = suc x.place; holds = x.holds }
cost_held (Some x ∷ xs) zero {v} {c} e =
    let pair : x ≡ (v, c) = cc in
    found_first x xs (ap (λ (y : ℕ × ℕ). y.0) pair)
cost_held (Some x ∷ xs) (suc i) {v} {c} e = found_later x xs (cost_held xs i e)

-- What the test of news says.
newer_true : (x : Mark) (t : ℕ) → newer x t ≡ true → News x t
newer_true unseen t h = tt
newer_true (opened r) t h = ltb-true t r.g h
newer_true (closed r) t h = ltb-true t r.g h

newer_false : (x : Mark) (t : ℕ) → newer x t ≡ false → News x t → ⊥
newer_false unseen t h news = let no_way : ◌≡◌ {A = ℕ} 0 1 = cc in omega arith
newer_false (opened r) t h news = omega (arith, ltb-false t r.g h)
newer_false (closed r) t h news = omega (arith, ltb-false t r.g h)

module _ {m : Meaning} (law : Lawful m) where
  -- The computed cost of a cut is its cost.
  cut_cost : {u v c : ℕ} → Leads m u v c → cost_to v (m.places u) ≡ c
  cut_cost {u} a = let x = cost_held (m.places u) a.place a.holds in one_cut law (record { place = x.place; holds = x.holds }) a

  -- Along a walk with one more cut before it.
  along_cut : (u : ℕ) {v w d : ℕ} {path : List ℕ} → Walk m v w path d → cost_along m (u ∷ path) ≡ join (cost_to v (m.places u)) (cost_along m path)
  along_cut u (stay v) = refl
  along_cut u (cut l walk) = refl

  -- And the computed cost of a walk.
  walk_cost : {u w d : ℕ} {path : List ℕ} → Walk m u w path d → cost_along m path ≡ d
  walk_cost (stay u) = refl
  walk_cost (cut {u = u} l walk) = along_cut u walk ∙ ap₂ join (cut_cost l) (walk_cost walk)

  -- PLACES

  -- A place that is tried does what is computed.
  tries : {n g : ℕ} {ps : List (Option (ℕ × ℕ))} (x : Option (ℕ × ℕ)) {s : State} → During m n g (x ∷ ps) s → Tried m n g x s (try m n g x s)
  tries None now = empty
  tries {n} {g} (Some x) {s} now =
      let t = join g x.1 in
      let Does = Tried m n g (Some x) s in
      cond_both (ltb (sum m x.0 t) (limit s)) _ s Does
      (λ low.
      let below = ltb-true (sum m x.0 t) (limit s) low in
      cond_both (eqb x.0 m.goal) _ _ Does (λ home. comes below (eqb-true x.0 m.goal home))
      (λ other.
      let away = eqb-false x.0 m.goal other in
      cond_both (newer (s.mark x.0) t) _ s Does (λ news. opens below away (newer_true (s.mark x.0) t news)) (λ old. keeps below away (newer_false (s.mark x.0) t old))))
      (λ high. dear (ltb-false (sum m x.0 t) (limit s) high))
    where
      comes :
          sum m x.0 (join g x.1) < limit s → x.0 ≡ m.goal
          → Tried m n g (Some x) s (stands s (chain_of s.mark m.states n ++ x.0 ∷ []) (join (cost_along m (chain_of s.mark m.states n)) x.1))
      comes below home =
          let w = during_walked law now in
          let same = chain_computed w.chain m.states (chain_short law now.kept.marks w.chain) in
          let cost = ap (cost_along m) same ∙ walk_cost w.walk in
          arrives below home (subst (λ (l : List ℕ). Chain s.mark n l) (sym same) w.chain)
          (subst₂ (λ (l : List ℕ) (d : ℕ). Walk m m.start n l d) (sym same) (sym cost) w.walk)

  -- So do places that are tried one after the other.
  tries_all : {n g : ℕ} (ps : List (Option (ℕ × ℕ))) {s : State} → During m n g ps s → Cuts m n g ps s (try_all m n g ps s)
  tries_all [] now = end
  tries_all (x ∷ ps) now = let t = tries x now in next t (tries_all ps (tried_keeps law now t))

-- THE CHOICE AND THE MOVE

-- A sum that a live state has is more than f, and too far from it for the focal set.
apart_says : (s : State) (f : ℕ) (x : Option ℕ) {e : ℕ} → apart s f x ≡ true → x ≡ Some e → (f < e) × (e * s.q ≤ s.p * f → ⊥)
apart_says s f None h is = absurd (let no_way : ◌≡◌ {A = ℕ} 0 1 = cc in omega arith)
apart_says s f (Some d) {e} h is =
    let same : d ≡ e = cc in
    let parts = and_parts (ltb f d) (not (leb (d * s.q) (s.p * f))) h in
    let more = ltb-true f d parts.0 in
    let far = leb-false (d * s.q) (s.p * f) (not-true (leb (d * s.q) (s.p * f)) parts.1) in
    subst (λ (k : ℕ). (f < k) × (k * s.q ≤ s.p * f → ⊥)) same (more, λ near. omega arith)

-- So it is of all live states below k but n.
alone_says :
    (m : Meaning) (s : State) (n f k : ℕ) → alone m s n f k ≡ true → (u g : ℕ) → u < k → Live m s u g
    → (u ≡ n) ⊎ ((f < sum m u g) × (sum m u g * s.q ≤ s.p * f → ⊥))
alone_says m s n f zero h u g low live = absurd (omega arith)
alone_says m s n f (suc k) h u g low live =
    let here = live_sum m (limit s) k (s.mark k) in
    let parts = and_parts (eqb k n || apart s f here) (alone m s n f k) h in
    elim (cases_eq u k) [
      | inr other ↦ alone_says m s n f k parts.1 u g (omega arith) live
      | inl same ↦ elim (or_cases (eqb k n) (apart s f here) parts.0) [
        | inl is ↦ inl (same ∙ eqb-true k n is)
        | inr far ↦ inr (apart_says s f here far (summed_here m s k same live))
      ]
    ]

module _ {m : Meaning} {ord : Order} (law : Lawful m) (ranks : LawfulRanks ord) {s : State} (held : Held m s) (n : ℕ) (r : Reach) (is_open : s.mark n ≡ opened r) (picked : chosen m n s (opened r) ≡ true) where
  -- The sum of n.
  abbrev f : ℕ
  f = sum m n r.g

  tests : (ltb f (limit s) ≡ true) × ((leb (f * s.q) (s.p * f) && alone m s n f m.states) ≡ true)
  tests = and_parts (ltb f (limit s)) (leb (f * s.q) (s.p * f) && alone m s n f m.states) picked

  more_tests : (leb (f * s.q) (s.p * f) ≡ true) × (alone m s n f m.states ≡ true)
  more_tests = and_parts (leb (f * s.q) (s.p * f)) (alone m s n f m.states) tests.1

  abbrev live_n : Live m s n r.g
  live_n = record { from = r.from; is_open = is_open; below = ltb-true f (limit s) tests.0 }

  -- Another live state has a greater sum, and is not in the focal set.
  others : (u g : ℕ) → Live m s u g → (u ≡ n) ⊎ ((f < sum m u g) × (sum m u g * s.q ≤ s.p * f → ⊥))
  others u g live = alone_says m s n f m.states more_tests.1 u g (live_in law held.kept live) live

  -- n is live at one cost.
  at_cost : (u g : ℕ) → Live m s u g → u ≡ n → g ≡ r.g
  at_cost u g live same = ap (λ (x : Reach). x.g) (one_live live live_n same)

  least_n : Least m s f
  least_n = record {
    at = n;
    at_g = r.g;
    live = live_n;
    is = refl;
    none_less = λ u g live. elim (others u g live) [
      | inl same ↦ omega (arith, at_cost u g live same, ap m.estimate same)
      | inr more ↦ omega (arith, more.0)
    ];
  }

  -- A set of numbers ranks no later than itself.
  self : ord (numbers m s f n r.g) (numbers m s f n r.g) ≡ true
  self = elim (ranks.total (numbers m s f n r.g) (numbers m s f n r.g)) [ inl e ↦ e | inr e ↦ e ]

  abbrev chosen_n : Chosen m ord s f n r.g
  chosen_n = record {
    focal = record { live = live_n; near = leb-true (f * s.q) (s.p * f) more_tests.0 };
    first = λ u g focal. elim (others u g focal.live) [
      | inl same ↦ subst₂ (λ (v h : ℕ). ord (numbers m s f n r.g) (numbers m s f v h) ≡ true) (sym same) (sym (at_cost u g focal.live same)) self
      | inr more ↦ absurd (more.1 focal.near)
    ];
  }

  -- The move of n, as it is computed.
  pub moves_open : (x : Move m ord s (move_at m n s (opened r))) × (x.n ≡ n)
  moves_open =
      let shut = closes m s n r is_open held.kept held.settled in
      let cuts = tries_all law (m.places n) shut in (
        record {
          n = n;
          g = r.g;
          f = f;
          least = least_n;
          chosen = chosen_n;
          after = _;
          cuts = cuts;
          raised = raises m _ law (cuts_keep law shut cuts).kept;
        },
        refl,
      )

-- A state that is chosen moves as it is computed.
pub moves :
    {m : Meaning} {ord : Order} {s : State} → Lawful m → LawfulRanks ord → Held m s → (n : ℕ) → chosen m n s (s.mark n) ≡ true
    → (x : Move m ord s (move_at m n s (s.mark n))) × (x.n ≡ n)
moves {m} {ord} {s} law ranks held n picked = at (s.mark n) refl picked
  where
    at : (x : Mark) → s.mark n ≡ x → chosen m n s x ≡ true → (y : Move m ord s (move_at m n s x)) × (y.n ≡ n)
    at unseen e h = absurd (let no_way : ◌≡◌ {A = ℕ} 0 1 = cc in omega arith)
    at (closed r) e h = absurd (let no_way : ◌≡◌ {A = ℕ} 0 1 = cc in omega arith)
    at (opened r) e h = moves_open law ranks held n r e h
