-- The first of the numbers below a number: a search that ends, for any property that can be decided and any total order.
use Rattle.std.proofs.Common.{◌≡◌, ℕ, zero, suc, ◌<◌, ◌⊎◌, sym, subst, inl, inr, arith}
use Rattle.std.proofs.lemmas.Bool.{cases_eq}

-- P says of a number that it holds at a cost, R of two such that the first comes no later: P can be decided, gives a number one cost, and R
-- is a total order.
pub record Ordered (P : ℕ → ℕ → Type 0) (R : ℕ → ℕ → ℕ → ℕ → Type 0) : Type 0 where
  pub decide : (u : ℕ) → ((g : ℕ) × P u g) ⊎ ((g : ℕ) → P u g → ⊥)
  pub once : (u g h : ℕ) → P u g → P u h → g ≡ h
  pub total : (u g v h : ℕ) → R u g v h ⊎ R v h u g
  pub onward : (u g v h w k : ℕ) → R u g v h → R v h w k → R u g w k

-- Of the numbers below n that P holds of, u at g is the first.
pub record First (P : ℕ → ℕ → Type 0) (R : ℕ → ℕ → ℕ → ℕ → Type 0) (n : ℕ) : Type 0 where
  pub u : ℕ
  pub g : ℕ
  pub holds : P u g
  pub first : (v h : ℕ) → v < n → P v h → R u g v h

-- P holds of no number below n.
abbrev pub NoneBelow : (ℕ → ℕ → Type 0) → ℕ → Type 0
NoneBelow P n = (v h : ℕ) → v < n → P v h → ⊥

-- A number below n + 1 is below n or is n.
below_suc : (v n : ℕ) → v < suc n → (v < n) ⊎ (v ≡ n)
below_suc v n low = elim (cases_eq v n) [ inl e ↦ inr e | inr apart ↦ inl (omega arith) ]

-- There is a first, or none at all.
pub first_below : {P : ℕ → ℕ → Type 0} {R : ℕ → ℕ → ℕ → ℕ → Type 0} → Ordered P R → (n : ℕ) → First P R n ⊎ NoneBelow P n
first_below x zero = inr (λ v h low holds. omega arith)
first_below {P} {R} x (suc n) = at (x.decide n) (first_below x n)
  where
    -- what holds of n holds at the one cost g that n has
    here : {A : Type 0} {v g h : ℕ} → P n g → P v h → v ≡ n → (v ≡ n → h ≡ g → A) → A
    here {v = v} {g = g} {h = h} p k e f = f e (x.once n h g (subst (λ (w : ℕ). P w h) e k) p)

    -- R of a number and itself
    self : (u g : ℕ) → R u g u g
    self u g = elim (x.total u g u g) [ inl r ↦ r | inr r ↦ r ]

    -- R of u at g and all below n + 1, from all below n and n itself
    more : {u g k : ℕ} → P n k → R u g n k → ((v h : ℕ) → v < n → P v h → R u g v h) → (v h : ℕ) → v < suc n → P v h → R u g v h
    more {u} {g} {k} p r before v h low holds = elim (below_suc v n low) [
      | inl lower ↦ before v h lower holds
      | inr e ↦ here p holds e (λ is cost. subst (λ (w : ℕ). R u g w h) (sym is) (subst (λ (w : ℕ). R u g n w) (sym cost) r))
    ]

    at : ((g : ℕ) × P n g) ⊎ ((g : ℕ) → P n g → ⊥) → First P R n ⊎ NoneBelow P n → First P R (suc n) ⊎ NoneBelow P (suc n)
    at (inr none) (inr before) = inr (λ v h low holds. elim (below_suc v n low) [
      | inl lower ↦ before v h lower holds
      | inr e ↦ none h (subst (λ (w : ℕ). P w h) e holds)
    ])
    at (inr none) (inl f) = inl (record {
      u = f.u;
      g = f.g;
      holds = f.holds;
      first = λ v h low holds. elim (below_suc v n low) [
        | inl lower ↦ f.first v h lower holds
        | inr e ↦ absurd (none h (subst (λ (w : ℕ). P w h) e holds))
      ];
    })
    at (inl p) (inr before) = inl (record { u = n; g = p.0; holds = p.1; first = more p.1 (self n p.0) (λ v h low holds. absurd (before v h low holds)) })
    at (inl p) (inl f) = elim (x.total f.u f.g n p.0) [
      | inl r ↦ inl (record { u = f.u; g = f.g; holds = f.holds; first = more p.1 r f.first })
      | inr r ↦ inl (record { u = n; g = p.0; holds = p.1; first = more p.1 (self n p.0) (λ v h low holds. x.onward n p.0 f.u f.g v h r (f.first v h low holds)) })
    ]
