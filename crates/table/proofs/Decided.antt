-- Rows pass or have a worst flaw: the checks can be decided, and where one fails there is a smallest cause with a least place.
use Rattle.std.proofs.Common.{ℕ, zero, suc, ◌+◌, ◌-◌, ◌<◌, ◌≤◌, ◌⊎◌, length, get_or, Some, None, Option, inl, inr, add-one, arith, below_none, below_more}
use Rattle.std.proofs.lemmas.Bool.{cases_lt, cases_eq}
use Rattle.table.specs.Table.{Rows, states, Shape, Ends, Holds, GoodTarget, GoodEstimate, GoodSlope, Bad, target, cost, estimate, slope, Passes, Worst}
use Rattle.table.specs.Checks.{First, Lapse}
use Rattle.table.proofs.Causes.{From, bad_seven, bad_eight, bad_nine, bad_ten, from_more, from_seven, worst_first, worst_shape, worst_ends, passes_all}
use Rattle.table.proofs.Firsts.{Clear, first_at, entry_within}

abbrev pub Decided : Type 0 → Type 0
Decided P = P ⊎ (P → ⊥)

pub d_le : (a b : ℕ) → Decided (a ≤ b)
d_le a b = elim (cases_lt b a) [ inl h ↦ inr (λ k. omega arith) | inr h ↦ inl h ]

d_not : {P : Type 0} → Decided P → Decided (P → ⊥)
d_not (inl p) = inr (λ f. f p)
d_not (inr f) = inl f

d_imp : {P Q : Type 0} → Decided P → Decided Q → Decided (P → Q)
d_imp (inl p) (inl q) = inl (λ _. q)
d_imp (inl p) (inr g) = inr (λ f. g (f p))
d_imp (inr f) d = inl (λ p. absurd (f p))

pub d_and : {P Q : Type 0} → Decided P → Decided Q → Decided (P × Q)
d_and (inl p) (inl q) = inl (p, q)
d_and (inl p) (inr g) = inr (λ h. g h.1)
d_and (inr f) d = inr (λ h. f h.0)

d_as : {P Q : Type 0} → (P → Q) → (Q → P) → Decided P → Decided Q
d_as f g (inl p) = inl (f p)
d_as f g (inr h) = inr (λ q. h (g q))

-- What a look for bad places finds.
abbrev Looked : (ℕ → Type 0) → Type 0
Looked bad = (o : Option ℕ) × First bad o

module _ (bad : ℕ → Type 0) (d : (k : ℕ) → Decided (bad k)) where
  look_below : (n : ℕ) → Looked bad ⊎ Clear bad n
  look_below zero = inr (below_none (λ k. bad k → ⊥))
  look_below (suc n) = go (look_below n) (d n)
    where
      go : Looked bad ⊎ Clear bad n → Decided (bad n) → Looked bad ⊎ Clear bad (suc n)
      go (inl l) e = inl l
      go (inr h) (inl b) = inl (Some n, first_at bad n h b)
      go (inr h) (inr f) = inr (rw add-one at (below_more (λ k. bad k → ⊥) n h f))

  -- Where every bad place lies below n.
  look : (n : ℕ) → ((k : ℕ) → bad k → k < n) → Looked bad
  look n b = elim (look_below n) [ inl l ↦ l | inr h ↦ (None, λ k x. h k (b k x) x) ]

  d_some : (n : ℕ) → ((k : ℕ) → bad k → k < n) → Decided ((k : ℕ) × bad k)
  d_some n b = let l = look n b in go l.0 l.1
    where
      go : (o : Option ℕ) → First bad o → Decided ((k : ℕ) × bad k)
      go None h = inr (λ x. h x.0 x.1)
      go (Some k) h = inl (k, h.0)

d_every : (P : ℕ → Type 0) → ((k : ℕ) → Decided (P k)) → (n : ℕ) → Decided ((k : ℕ) → k < n → P k)
d_every P d n =
    elim (d_some (λ k. (k < n) × (P k → ⊥)) (λ k. d_and (d_le (suc k) n) (d_not (d k))) n (λ k x. x.0)) [
      | inl x ↦ inr (λ h. x.1.1 (h x.0 x.1.0))
      | inr f ↦ inl (λ k s. elim (d k) [ inl p ↦ p | inr g ↦ absurd (f (k, (s, g))) ])
    ]

module _ (r : Rows) where
  pub d_shape : Decided (Shape r)
  d_shape =
      d_as
      (λ h.
      record {
        enough = h.0;
        few = h.1.0;
        one_more = h.1.1.0;
        from_nought = h.1.1.1.0;
        rising = h.1.1.1.1.0;
        to_the_end = h.1.1.1.1.1.0;
        alike = h.1.1.1.1.1.1.0;
        cuts_few = h.1.1.1.1.1.1.1;
      })
      (λ s. (s.enough, (s.few, (s.one_more, (s.from_nought, (s.rising, (s.to_the_end, (s.alike, s.cuts_few))))))))
      (d_and (d_le 2 (states r))
      (d_and (d_le (states r) 1024)
      (d_and (cases_eq (length r.firsts) (states r + 1))
      (d_and (cases_eq (get_or r.firsts 0 0) 0)
      (d_and (d_every (λ u. get_or r.firsts u 0 ≤ get_or r.firsts (u + 1) 0) (λ u. d_le (get_or r.firsts u 0) (get_or r.firsts (u + 1) 0)) (states r))
      (d_and (cases_eq (get_or r.firsts (states r) 0) (length r.targets))
      (d_and (cases_eq (length r.targets) (length r.costs)) (d_le (length r.targets) 8192))))))))

  pub d_ends : Decided (Ends r)
  d_ends =
      d_as (λ h. record { start_in = h.0; goal_in = h.1.0; apart = h.1.1 }) (λ s. (s.start_in, (s.goal_in, s.apart)))
      (d_and (d_le (suc r.start) (states r)) (d_and (d_le (suc r.goal) (states r)) (d_not (cases_eq r.start r.goal))))

  d_holds : (u e : ℕ) → Decided (Holds r u e)
  d_holds u e =
      d_as (λ h. record { state = h.0; after = h.1.0; before = h.1.1 }) (λ s. (s.state, (s.after, s.before)))
      (d_and (d_le (suc u) (states r)) (d_and (d_le (get_or r.firsts u 0) e) (d_le (suc e) (get_or r.firsts (u + 1) 0))))

  pub d_target : (u e : ℕ) → Decided (GoodTarget r u e)
  d_target u e =
      d_as (λ h. record { inside = h.0; other = h.1.0; above = h.1.1 }) (λ s. (s.inside, (s.other, s.above)))
      (d_and (d_le (suc (get_or r.targets e 0)) (states r))
      (d_and (d_not (cases_eq (get_or r.targets e 0) u))
      (d_imp (d_le (suc (get_or r.firsts u 0)) e) (d_le (suc (get_or r.targets (e - 1) 0)) (get_or r.targets e 0)))))

  pub d_estimate : (s : ℕ) → Decided (GoodEstimate r s)
  d_estimate s =
      d_as (λ h. record { small = h.0; nought = h.1 }) (λ g. (g.small, g.nought))
      (d_and (d_le (get_or r.estimates s 0) 1023000) (d_imp (cases_eq s r.goal) (cases_eq (get_or r.estimates s 0) 0)))

  pub d_slope : (u e : ℕ) → Decided (GoodSlope r u e)
  d_slope u e = d_le (get_or r.estimates u 0) (get_or r.costs e 0 + get_or r.estimates (get_or r.targets e 0) 0)

  -- An entry is bad by some state that holds it.
  d_lapse : (good : ℕ → ℕ → Type 0) → ((u e : ℕ) → Decided (good u e)) → (e : ℕ) → Decided ((u : ℕ) × Lapse r good u e)
  d_lapse good d e =
      d_some (λ u. Lapse r good u e)
      (λ u. d_as (λ h. record { held = h.0; fails = h.1 }) (λ x. (x.held, x.fails)) (d_and (d_holds u e) (d_not (d u e))))
      (states r)
      (λ u x. x.held.state)

  -- A cause for which an entry is bad by a lapse.
  look_lapse :
      (c : ℕ) (good : ℕ → ℕ → Type 0) → ((u e : ℕ) → Decided (good u e)) → ((u e : ℕ) → Lapse r good u e → Bad r c e)
      → ((e : ℕ) → Bad r c e → (u : ℕ) × Lapse r good u e) → Shape r → Looked (Bad r c)
  look_lapse c good d to by s =
      look (Bad r c) (λ e. d_as (λ x. to x.0 e x.1) (by e) (d_lapse good d e)) (length r.targets)
      (λ e x. let b = by e x in entry_within r s b.0 e b.1.held)

  look_seven : Shape r → Looked (Bad r 7)
  look_seven = look_lapse 7 (GoodTarget r) d_target (λ u e x. target u e x.held x.fails) (bad_seven r)

  look_eight : Looked (Bad r 8)
  look_eight =
      look (Bad r 8)
      (λ e.
      d_as (λ x. cost e x.0 x.1) (bad_eight r e)
      (d_and (d_le (suc e) (length r.costs)) (d_not (d_and (d_le 1 (get_or r.costs e 0)) (d_le (get_or r.costs e 0) 1000)))))
      (length r.costs)
      (λ e x. (bad_eight r e x).0)

  look_nine : Looked (Bad r 9)
  look_nine =
      look (Bad r 9)
      (λ e. d_as (λ x. estimate e x.0 x.1) (bad_nine r e) (d_and (d_le (suc e) (states r)) (d_not (d_estimate e))))
      (states r)
      (λ e x. (bad_nine r e x).0)

  look_ten : Shape r → Looked (Bad r 10)
  look_ten = look_lapse 10 (GoodSlope r) d_slope (λ u e x. slope u e x.held x.fails) (bad_ten r)

  abbrev Judged : Type 0
  Judged = Passes r ⊎ ((c : ℕ) × ((e : ℕ) × Worst r c e))

  -- The verdict, where no cause below c applies.
  stage : (c : ℕ) → From r c → Looked (Bad r c) → (From r (c + 1) → Judged) → Judged
  stage c h l next = go l.0 l.1
    where
      go : (o : Option ℕ) → First (Bad r c) o → Judged
      go None f = next (from_more r c h f)
      go (Some e) f = inr (c, (e, worst_first r c e h f))

  pub judged : Passes r ⊎ ((c : ℕ) × ((e : ℕ) × Worst r c e))
  judged =
      elim d_shape [
        | inr f ↦ inr (5, (0, worst_shape r f))
        | inl s ↦
            elim d_ends [
              | inr f ↦ inr (6, (0, worst_ends r s f))
              | inl t ↦
                  stage 7 (from_seven r s t) (look_seven s)
                  (λ h. stage 8 h look_eight (λ h. stage 9 h look_nine (λ h. stage 10 h (look_ten s) (λ h. inl (passes_all r h)))))
            ]
      ]
