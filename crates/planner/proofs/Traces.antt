-- A chain followed back, state by state, and written from its end.
use Rattle.std.proofs.Common.{◌≡◌, ℕ, ◌+◌, ◌<◌, ◌≤◌, List, [], ◌∷◌, ◌++◌, length, take, drop, set, Some, None, sym, refl, ap, ◌∙◌, subst, inl, inr, append_assoc, append-nil, arith, zero, suc, Option, IfSome, IsSomeAnd, ◌⊎◌, ◌-◌}
use lib.Seq.{take-set-lt}
use Rattle.std.proofs.lemmas.Option.{IfSome_then, same_Some}
use Rattle.std.proofs.lemmas.Bool.{cases_lt}
use Rattle.std.proofs.lemmas.List.{length_push, length-take, length-take-le, drop-set, drop_all}
use Rattle.course.specs.declared.machine.Reach.{Reach}
use Rattle.course.specs.declared.machine.Mark.{Mark}
use Rattle.course.specs.Machine.{Seen, Chain, root, link}
use Rattle.course.proofs.Chains.{Before, some_none}
use Rattle.planner.specs.Searches.{origin_of}

-- What stands there once at is written at j.
written : {at j len : ℕ} (row : List ℕ) → j < len → len ≤ length row → drop j (take len (set row j at)) ≡ at ∷ drop (j + 1) (take len row)
written {at} {j} {len} row low fits =
    ap (drop j) (take-set-lt len row j at low) ∙ drop-set (take len row) j at (omega (arith, length-take-le len row fits))

-- A seen state was reached from where its reach says.
seen_origin : (mark : ℕ → Mark) (u : ℕ) {r : Reach} → Seen mark u r → origin_of (mark u) ≡ r.from
seen_origin mark u (inl e) = ap origin_of e
seen_origin mark u (inr e) = ap origin_of e

module _ (mark : ℕ → Mark) where
  -- A chain that ends at a state reached from nowhere is that state alone.
  origin_none : {v : ℕ} {path : List ℕ} → origin_of (mark v) ≡ None → Chain mark v path → path ≡ v ∷ []
  origin_none none (root seen) = refl
  origin_none none (link {v = v} seen chain) = absurd (some_none (sym (seen_origin mark v seen) ∙ none))

  -- A chain that ends at a state reached from u comes apart before it.
  origin_some : {u v : ℕ} {path : List ℕ} → origin_of (mark v) ≡ Some u → Chain mark v path → Before mark u v path
  origin_some {v = v} some (root seen) = absurd (some_none (sym some ∙ seen_origin mark v seen))
  origin_some {u} {v} some (link {u = w} {path = front} seen chain) =
      let same : w ≡ u = cc (seen_origin mark v seen) in
      record { front = front; chain = subst (λ (x : ℕ). Chain mark x front) same chain; whole = refl }

  -- A chain has a state.
  chain_some : {v : ℕ} {path : List ℕ} → Chain mark v path → 1 ≤ length path
  chain_some (root seen) = omega arith
  chain_some (link {v = v} {path = path} seen chain) = omega (arith, length_push path v)

  -- COUNTING

  -- Of a chain of len states, those up to at are left, and i have been counted, at itself among them.
  pub record Back (at i len : ℕ) : Type 0 where
    pub front : List ℕ
    pub chain : Chain mark at front
    pub count : length front + i ≡ len + 1

  -- Before the first step.
  pub back_first : {n : ℕ} {path : List ℕ} → Chain mark n path → Back n 1 (length path)
  back_first {path = path} chain = record { front = path; chain = chain; count = refl }

  -- One step back.
  pub back_more : {at u i len : ℕ} → origin_of (mark at) ≡ Some u → Back at i len → Back u (i + 1) len
  back_more {at} some old =
      let b = origin_some some old.chain in
      record { front = b.front; chain = b.chain; count = omega (arith, old.count, ap length b.whole, length_push b.front at) }

  -- At the chain's first state all are counted.
  pub back_all : {at i len : ℕ} → origin_of (mark at) ≡ None → Back at i len → i ≡ len
  back_all none old = omega (arith, old.count, ap length (origin_none none old.chain))

  -- More states cannot be counted than the chain has.
  pub back_few : {at i len : ℕ} → Back at i len → i ≤ len
  back_few old = omega (arith, old.count, chain_some old.chain)

  -- A trace has a state at each place, or none: the first is n, and what each gives is the next, or none at its end.
  module _ {n : ℕ} {path : List ℕ} (at : ℕ → Option ℕ) (first : IfSome (at 0) (λ x. Some n ≡ Some x)) (step : (k : ℕ) → 0 < k → IfSome (at k) (λ y. IsSomeAnd (at (k - 1)) (λ x. origin_of (mark x) ≡ Some y))) (chain : Chain mark n path) where
    back_next : (k : ℕ) (a b : Option ℕ) → IfSome a (λ x. Back x (k + 1) (length path)) → IfSome b (λ y. IsSomeAnd a (λ x. origin_of (mark x) ≡ Some y)) → IfSome b (λ y. Back y (suc k + 1) (length path))
    back_next k a None old step = tt
    back_next k None (Some y) old step = absurd step
    back_next k (Some x) (Some y) old step = subst (λ (i : ℕ). Back y i (length path)) (omega arith) (back_more step old)

    -- It goes back along the chain.
    back_at : (k : ℕ) → IfSome (at k) (λ x. Back x (k + 1) (length path))
    back_at zero = IfSome_then (at 0) first (λ x e. subst (λ (y : ℕ). Back y (0 + 1) (length path)) (same_Some n x e) (subst (λ (i : ℕ). Back n i (length path)) (omega arith) (back_first chain)))
    back_at (suc k) =
        let before : suc k - 1 ≡ k = omega arith in
        back_next k (at k) (at (suc k)) (back_at k) (subst (λ (j : ℕ). IfSome (at (suc k)) (λ y. IsSomeAnd (at j) (λ x. origin_of (mark x) ≡ Some y))) before (step (suc k) (omega arith)))

    -- Cut off at 1,024 states, it is as long as a chain that is no longer.
    pub trace_length : (len : ℕ) → len ≤ 1024 → 0 < len → ((k : ℕ) → k < len → IsSomeAnd (at k) (λ _. Unit {0})) → ((k : ℕ) → len < 1024 → len ≡ k + 1 → IsSomeAnd (at k) (λ x. origin_of (mark x) ≡ None)) → length path ≤ 1024 → len ≡ length path
    trace_length len few some held end long =
        let last : len ≡ len - 1 + 1 = omega arith in
        last ∙ by (len - 1) (at (len - 1)) (back_at (len - 1)) (held (len - 1) (omega arith)) (λ low. end (len - 1) (omega arith) last) (omega arith) (cases_lt (len - 1 + 1) 1024)
      where
        by : (k : ℕ) (o : Option ℕ) → IfSome o (λ x. Back x (k + 1) (length path)) → IsSomeAnd o (λ _. Unit {0}) → (k + 1 < 1024 → IsSomeAnd o (λ x. origin_of (mark x) ≡ None)) → k + 1 ≤ 1024 → (k + 1 < 1024) ⊎ (1024 ≤ k + 1) → k + 1 ≡ length path
        by k None back some end few cases = absurd some
        by k (Some x) back some end few (inl low) = back_all (end low) back
        by k (Some x) back some end few (inr high) = omega (arith, back_few back)

  -- WRITING

  -- Of a chain, those up to at are left, i of them, and the others stand in the first len of the row, from the place i on.
  pub record Writing (at i len : ℕ) (row path : List ℕ) : Type 0 where
    pub front : List ℕ
    pub chain : Chain mark at front
    pub left : length front ≡ i
    pub whole : path ≡ front ++ drop i (take len row)

  -- Before the first.
  pub writing_first : {n len : ℕ} {row path : List ℕ} → Chain mark n path → length path ≡ len → Writing n len len row path
  writing_first {n} {len} {row} {path} chain e = record { front = path; chain = chain; left = e; whole = sym (ap (λ l. path ++ l) none ∙ append-nil path) }
    where
      none : drop len (take len row) ≡ []
      none = drop_all len (take len row) (omega (arith, length-take len row))

  -- One more is written, and u is before it.
  pub writing_more : {at u j i len : ℕ} {row path : List ℕ} → origin_of (mark at) ≡ Some u → i ≡ j + 1 → j < len → len ≤ length row → Writing at i len row path → Writing u j len (set row j at) path
  writing_more {at} {u} {j} {i} {len} {row} {path} some e low fits old =
      let b = origin_some some old.chain in
      record {
        front = b.front;
        chain = b.chain;
        left = omega (arith, old.left, ap length b.whole, length_push b.front at);
        whole = old.whole
            ∙ ap (λ l. l ++ drop i (take len row)) b.whole
            ∙ append_assoc b.front (at ∷ []) (drop i (take len row))
            ∙ ap (λ k. b.front ++ at ∷ drop k (take len row)) e
            ∙ ap (λ l. b.front ++ l) (sym (written row low fits));
      }

  -- The last is written.
  pub writing_last : {at j i len : ℕ} {row path : List ℕ} → origin_of (mark at) ≡ None → i ≡ j + 1 → j < len → len ≤ length row → Writing at i len row path → take len (set row j at) ≡ path
  writing_last {at} {j} {i} {len} {row} {path} none e low fits old =
      let one = origin_none none old.chain in
      let first : j ≡ 0 = omega (arith, old.left, ap length one) in
      sym (old.whole
      ∙ ap (λ l. l ++ drop i (take len row)) one
      ∙ ap (λ k. at ∷ drop k (take len row)) e
      ∙ sym (written row low fits)
      ∙ ap (λ k. drop k (take len (set row j at))) first)

  -- None is left: no chain is so.
  pub writing_none : {at len : ℕ} {row path : List ℕ} → Writing at 0 len row path → ⊥
  writing_none old = omega (arith, old.left, chain_some old.chain)
