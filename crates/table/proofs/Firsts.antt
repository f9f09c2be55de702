-- The first bad place of a loop that goes up one by one, and of a search through the entries of state after state.
use Rattle.std.proofs.Common.{◌≡◌, ℕ, zero, suc, ◌+◌, ◌-◌, ◌<◌, ◌≤◌, Bool, true, false, length, get_or, Some, None, Option, List, Decides, is_le, nat_cmp, refl, subst, inl, inr, arith}
use Rattle.std.proofs.lemmas.Bool.{cases_lt, cases_order}
use Rattle.std.proofs.lemmas.Bool.Decides.{not_from_Decides, nat_tests}
use Rattle.std.specs.List.{IsEachAdjacentAnswer}
use Rattle.table.specs.Table.{Rows, states, Shape, Holds, Bad, target}
use Rattle.table.specs.Checks.{First, Lapse, FirstFailing, none, some}

-- No place below i is bad.
abbrev pub Clear : (ℕ → Type 0) → ℕ → Type 0
Clear bad i = (k : ℕ) → k < i → bad k → ⊥

pub first_at : (bad : ℕ → Type 0) (i : ℕ) → Clear bad i → bad i → First bad (Some i)
first_at bad i h b = (b, λ k x. elim (cases_lt k i) [ inl s ↦ absurd (h k s x) | inr s ↦ s ])

-- What `is_sorted` answers of a row of numbers.
sorted_le : (a b : ℕ) → is_le (nat_cmp a b) ≡ true → a ≤ b
sorted_le a b h = grind (arith, nat_tests)

sorted_gt : (a b : ℕ) → is_le (nat_cmp a b) ≡ false → b < a
sorted_gt a b h = grind (arith, nat_tests)

pub sorted_rises :
    (xs : List ℕ) (b : Bool) → IsEachAdjacentAnswer (λ x y c. is_le (nat_cmp x y) ≡ c) xs b
    → Decides b ((u : ℕ) → u + 1 < length xs → get_or xs u 0 ≤ get_or xs (u + 1) 0)
sorted_rises xs true h = (λ _ u l. sorted_le (get_or xs u 0) (get_or xs (u + 1) 0) (h u 0 l).1, λ _. refl)
sorted_rises xs false h =
    (λ e. cc, λ f. absurd (omega (arith, f h.0 h.1, sorted_gt (get_or xs h.0 0) (get_or xs (h.0 + 1) 0) (h.2 0).1)))

-- Each entry of the states below u passes a test, by what it may answer.
abbrev pub Passed : Rows → (ℕ → ℕ → Bool → Type 0) → ℕ → Type 0
Passed r A u = (v k : ℕ) → Holds r v k → v < u → A v k true

-- Each entry of state u below e passes.
abbrev pub PassedOf : Rows → (ℕ → ℕ → Bool → Type 0) → ℕ → ℕ → Type 0
PassedOf r A u e = (k : ℕ) → Holds r u k → k < e → A u k true

pub passed_more : (r : Rows) (A : ℕ → ℕ → Bool → Type 0) (u : ℕ) → Passed r A u → ((k : ℕ) → Holds r u k → A u k true) → Passed r A (u + 1)
passed_more r A u h here v k x l =
    elim (cases_lt v u) [
      | inl s ↦ h v k x s
      | inr s ↦
          let same : u ≡ v = omega arith in
          let P : ℕ → Type 0 = λ v. Holds r v k → A v k true in
          subst P same (here k) x
    ]

-- A test that decides what is good of a cut finds the first bad place.
pub first_bad :
    (r : Rows) (A : ℕ → ℕ → Bool → Type 0) (good : ℕ → ℕ → Type 0) (bad : ℕ → Type 0) (o : Option ℕ)
    → FirstFailing r A o → ((u e : ℕ) (b : Bool) → Holds r u e → A u e b → Decides b (good u e)) → ((u e : ℕ) → Holds r u e → (good u e → ⊥) → bad e)
    → ((e : ℕ) → bad e → (u : ℕ) × Lapse r good u e) → First bad o
first_bad r A good bad o f decides to by = go o f
  where
    passes : (e : ℕ) → ((u : ℕ) → Holds r u e → A u e true) → bad e → ⊥
    passes e h x = let l = by e x in l.1.fails ((decides l.0 e true l.1.held (h l.0 l.1.held)).0 refl)

    go : (o : Option ℕ) → FirstFailing r A o → First bad o
    go None (none f) = λ e x. passes e (λ u k. f u e k) x
    go (Some e) (some u e1 h f before) = (
      to u e h (not_from_Decides false (decides u e false h f) refl),
      λ k x. elim (cases_lt k e) [
        | inl s ↦ absurd (passes k (λ v j. before v k j s) x)
        | inr s ↦ s
      ],
    )

-- The entries of a state end where those of the next begin.
module _ (r : Rows) (s : Shape r) where
  climbs : (u d : ℕ) → u + d ≤ states r → get_or r.firsts u 0 ≤ get_or r.firsts (u + d) 0
  climbs u zero h = let e : u + 0 ≡ u = omega arith in rw e (omega arith)
  climbs u (suc d) h =
      let e : u + suc d ≡ u + d + 1 = omega arith in
      rw e (omega (arith, climbs u d (omega arith), s.rising (u + d) (omega arith)))

  pub climbs_to : (u v : ℕ) → u ≤ v → v ≤ states r → get_or r.firsts u 0 ≤ get_or r.firsts v 0
  climbs_to u v h k = let e : u + (v - u) ≡ v = omega arith in rw e at (climbs u (v - u) (omega arith))

  pub entry_within : (u e : ℕ) → Holds r u e → e < length r.targets
  entry_within u e h = omega (arith, climbs_to (u + 1) (states r) (omega (arith, h.state)) (omega arith), s.to_the_end)

  -- A failing entry of state u is the first of all, where the states before u have none, and u has none before it.
  pub failing_at :
      (A : ℕ → ℕ → Bool → Type 0) (u e : ℕ) → Passed r A u → Holds r u e → A u e false
      → PassedOf r A u e → FirstFailing r A (Some e)
  failing_at A u e h k f before =
      some u e k f
      (λ v j x l.
      elim (cases_order u v) [
        | inl same ↦ let P : ℕ → Type 0 = λ v. Holds r v j → A v j true in subst P same (λ y. before j y l) x
        | inr (inl s) ↦ absurd (omega (arith, k.before, climbs_to (u + 1) v (omega arith) (omega (arith, x.state)), x.after))
        | inr (inr s) ↦ h v j x s
      ])

  -- Where no target is bad, every cut leads to a state.
  pub target_within : First (Bad r 7) None → (u e : ℕ) → Holds r u e → get_or r.targets e 0 < states r
  target_within h u e k =
      elim (cases_lt (get_or r.targets e 0) (states r)) [
        | inl s ↦ s
        | inr s ↦ absurd (h e (target u e k (λ g. omega (arith, g.inside))))
      ]
