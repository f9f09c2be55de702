-- The part of a row that a state's entries are.
use Rattle.std.proofs.Common.{◌≡◌, ℕ, ◌+◌, ◌-◌, ◌<◌, ◌≤◌, ◌⊎◌, List, [], length, get_or, Some, None, drop, slice_range, slice_index_or, sym, ap, ◌∙◌, inl, inr, arith, length-take, length-drop, get_or-take, get_or-drop, subst}
use Rattle.std.proofs.lemmas.List.{get_or_past}
use Rattle.std.proofs.lemmas.Bool.{cases_lt}
use Rattle.table.specs.Table.{Rows, states, Passes}
use Rattle.table.proofs.Firsts.{climbs_to}
use Rattle.tableblank.specs.Tabled.{first, entries, row}
use Rattle.tableblank.specs.Laws.{row_at, row_past, row_length, passes_lawful}
use Rattle.tableblank.specs.Passed.{passes_shape}

pub part_length : (xs : List ℕ) (i j : ℕ) → j ≤ length xs → length (slice_range xs i j) ≡ j - i
part_length xs i j h = omega (arith, length-take {A = ℕ}, length-drop {A = ℕ})

pub part_at : (xs : List ℕ) (i j k : ℕ) → k < j - i → get_or (slice_range xs i j) k 0 ≡ get_or xs (i + k) 0
part_at xs i j k h = get_or-take (j - i) (drop i xs) k 0 h ∙ get_or-drop i xs k 0

pub part_none : (xs : List ℕ) (i j : ℕ) → j ≤ i → slice_range xs i j ≡ []
part_none xs i j h = let e : j - i ≡ 0 = omega arith in rw e

module _ (r : Rows) (p : Passes r) (u : ℕ) where
  -- Past the last state the next first is 0, so the part is empty there.
  pub past_last : states r ≤ u → first r (u + 1) ≡ 0
  past_last h = get_or_past r.firsts (u + 1) 0 (omega (arith, (passes_shape r p).one_more))

  ends_within : first r (u + 1) ≤ length r.targets
  ends_within =
      elim (cases_lt u (states r)) [
        | inl h ↦ omega (arith, climbs_to r (passes_shape r p) (u + 1) (states r) (omega arith) (omega arith), (passes_shape r p).to_the_end)
        | inr h ↦ omega (arith, past_last h)
      ]

  -- The part of a state lies in both rows of the cuts.
  pub fits :
      u < states r
      → (u + 1 < length r.firsts) × (first r u ≤ first r (u + 1)) × (first r (u + 1) ≤ length r.targets) × (first r (u + 1) ≤ length r.costs)
  fits h =
      let s = passes_shape r p in
      (omega (arith, s.one_more), s.rising u h, ends_within, omega (arith, ends_within, s.alike))

  targets_long : (targets : List ℕ) → targets ≡ slice_range r.targets (first r u) (first r (u + 1)) → length targets ≡ entries r u
  targets_long targets t = ap length t ∙ part_length r.targets (first r u) (first r (u + 1)) ends_within

  -- How many places a state has, by the part of the targets that is its own.
  pub places_are : (targets : List ℕ) → targets ≡ slice_range r.targets (first r u) (first r (u + 1))
      → (length targets ≡ length (row r u)) × (length targets ≤ 1024)
  places_are targets t =
      let e = targets_long targets t ∙ sym (row_length r u) in
      (e, omega (arith, e, (passes_lawful r p).places_most u))

  module _ (targets costs : List ℕ) (t : targets ≡ slice_range r.targets (first r u) (first r (u + 1)))
      (s : costs ≡ slice_range r.costs (first r u) (first r (u + 1))) where
    costs_long : length costs ≡ entries r u
    costs_long = ap length s ∙ part_length r.costs (first r u) (first r (u + 1)) (omega (arith, ends_within, (passes_shape r p).alike))

    pub none_there : (i : ℕ) → (length targets ≤ i) ⊎ (length costs ≤ i) → None ≡ slice_index_or (row r u) i None
    none_there i (inl h) = sym (row_past r u i (omega (arith, targets_long targets t)))
    none_there i (inr h) = sym (row_past r u i (omega (arith, costs_long)))

    -- what stands at i of both parts, the place that is asked for
    pub cut_there : (i place v c : ℕ) → v ≡ get_or targets i 0 → c ≡ get_or costs i 0 → i < length targets → i ≡ place
        → Some (v, c) ≡ slice_index_or (row r u) place None
    cut_there i place v c e f h same =
        let k : i < entries r u = omega (arith, targets_long targets t) in
        let to : v ≡ get_or r.targets (first r u + i) 0 = e ∙ ap (λ xs. get_or xs i 0) t ∙ part_at r.targets (first r u) (first r (u + 1)) i k in
        let cost : c ≡ get_or r.costs (first r u + i) 0 = f ∙ ap (λ xs. get_or xs i 0) s ∙ part_at r.costs (first r u) (first r (u + 1)) i k in
        let here = row_at r u i k in
        subst (λ (j : ℕ). Some (v, c) ≡ slice_index_or (row r u) j None) same cc
