-- Rows that pass the checks spell a lawful blank. The table carries this proof, so it stands here and not among the proofs.
use Rattle.std.specs.Prelude.{◌≡◌, ℕ, zero, suc, ◌+◌, ◌-◌, ◌<◌, ◌≤◌, List, length, get_or, Some, None, slice_index, slice_index_or, refl}
use Rattle.std.proofs.Common.{sym, ap, ◌∙◌, inl, inr, arith}
use Rattle.std.proofs.lemmas.List.{get_or_past}
use Rattle.std.proofs.lemmas.Bool.{cases_lt, cases_order}
use Rattle.std.proofs.lemmas.List.FromFn.{length-map-range_with_len, get_or-map-range_with_len}
use Rattle.course.specs.Blanks.{Leads, Walk, stay, cut, Lawful}
use Rattle.table.specs.Table.{Rows, states, Holds, Passes}
use Rattle.table.proofs.Firsts.{entry_within}
use Rattle.tableblank.specs.Tabled.{first, entries, entry, row, tabled}
use Rattle.tableblank.specs.Passed.{passes_shape, passes_ends, passes_target, passes_cost, passes_estimate, passes_slope}

-- The places of a state, whatever the rows.
module _ (r : Rows) (u : ℕ) where
  pub row_length : length (row r u) ≡ entries r u
  row_length = length-map-range_with_len (entry r) (first r u) (entries r u)

  pub row_at : (i : ℕ) → i < entries r u → slice_index_or (row r u) i None ≡ entry r (first r u + i)
  row_at i h = get_or-map-range_with_len (entry r) (first r u) (entries r u) i (first r u + i) None h refl

  pub row_past : (i : ℕ) → entries r u ≤ i → slice_index_or (row r u) i None ≡ None
  row_past i h = get_or_past (row r u) i None (omega (arith, row_length))

module _ (r : Rows) (p : Passes r) where
  pub none_outside : (u : ℕ) → states r ≤ u → entries r u ≡ 0
  none_outside u h = omega (arith, get_or_past r.firsts (u + 1) 0 (omega (arith, (passes_shape r p).one_more)))

  -- Entry i of state u, counted from its first, is a cut of u.
  pub holds_at : (u i : ℕ) → i < entries r u → Holds r u (first r u + i)
  holds_at u i h =
      record {
        state = elim (cases_lt u (states r)) [ inl s ↦ s | inr s ↦ absurd (omega (arith, none_outside u s)) ];
        after = omega arith;
        before = omega arith;
      }

  pub entry_in : (u i : ℕ) → i < entries r u → first r u + i < length r.targets
  entry_in u i h = entry_within r (passes_shape r p) u (first r u + i) (holds_at u i h)

  -- A cut of the blank, by its entry.
  record Stands (u v c place : ℕ) : Type 0 where
    at : place < entries r u
    to : get_or r.targets (first r u + place) 0 ≡ v
    costs : get_or r.costs (first r u + place) 0 ≡ c

  stands : {u v c : ℕ} (a : Leads (tabled r) u v c) → Stands u v c a.place
  stands {u} {v} {c} a =
      elim (cases_lt a.place (entries r u)) [
        | inl h ↦
            let both : entry r (first r u + a.place) ≡ Some (v, c) = sym (row_at r u a.place h) ∙ a.holds in
            let pair : ◌≡◌ {A = ℕ × ℕ} (slice_index r.targets (first r u + a.place), slice_index r.costs (first r u + a.place)) (v, c) = cc in
            record { at = h; to = ap (λ (x : ℕ × ℕ). x.0) pair; costs = ap (λ (x : ℕ × ℕ). x.1) pair }
        | inr h ↦
            absurd (let none : None ≡ Some (v, c) = sym (row_past r u a.place h) ∙ a.holds in let z : ◌≡◌ {A = ℕ} 0 1 = cc in omega arith)
      ]

  stands_held : {u v c place : ℕ} → Stands u v c place → Holds r u (first r u + place)
  stands_held {u} {v} {c} {place} s = holds_at u place s.at

  -- Along a cut the estimate falls by no more than its cost.
  falls : {u v c : ℕ} → Leads (tabled r) u v c → slice_index r.estimates u ≤ c + slice_index r.estimates v
  falls {u} a =
      let s = stands a in
      omega (arith, passes_slope r p u (first r u + a.place) (stands_held s), s.costs, ap (λ n. slice_index r.estimates n) s.to)

  -- So along a walk to the goal it falls to 0 by no more than the walk's cost.
  goal_nought : get_or r.estimates r.goal 0 ≡ 0
  goal_nought = (passes_estimate r p r.goal (passes_ends r p).goal_in).nought refl

  under : {u w d : ℕ} {path : List ℕ} → Walk (tabled r) u w path d → w ≡ r.goal → slice_index r.estimates u ≤ d
  under (stay u) e = omega (arith, ap (λ n. slice_index r.estimates n) e, goal_nought)
  under (cut a rest) e = omega (arith, falls a, under rest e)

  -- Targets rise within a state and pass its own number by, so entry i leads to i or beyond, and beyond once i has reached that number.
  climbs : (u i : ℕ) → i < entries r u → (i ≤ slice_index r.targets (first r u + i)) × (u ≤ i → i < slice_index r.targets (first r u + i))
  climbs u zero h =
      let g = passes_target r p u (first r u + 0) (holds_at u 0 h) in (
        omega arith,
        λ le. elim (cases_order (slice_index r.targets (first r u + 0)) u) [
          | inl same ↦ absurd (g.other same)
          | inr (inl less) ↦ omega arith
          | inr (inr more) ↦ omega arith
        ],
      )
  climbs u (suc i) h =
      let g = passes_target r p u (first r u + suc i) (holds_at u (suc i) h) in
      let before = climbs u i (omega arith) in
      let here : first r u + suc i - 1 ≡ first r u + i = omega arith in
      let rose : get_or r.targets (first r u + i) 0 < get_or r.targets (first r u + suc i) 0 =
      omega (arith, g.above (omega arith), ap (λ n. slice_index r.targets n) here) in (
        omega (arith, before.0, rose),
        λ le. elim (cases_lt i u) [
          | inl less ↦
              elim (cases_order (slice_index r.targets (first r u + suc i)) u) [
                | inl same ↦ absurd (g.other same)
                | inr (inl low) ↦ absurd (omega (arith, before.0, rose))
                | inr (inr high) ↦ omega (arith, before.0, rose)
              ]
          | inr past ↦ omega (arith, before.1 past, rose)
        ],
      )

  -- A state has fewer entries than there are states.
  few : (u n : ℕ) → entries r u ≡ n → n ≤ 1023
  few u zero e = omega arith
  few u (suc n) e =
      let h = holds_at u n (omega arith) in
      let c = climbs u n (omega arith) in
      let t : get_or r.targets (first r u + n) 0 < states r = (passes_target r p u (first r u + n) h).inside in
      let s : states r ≤ 1024 = (passes_shape r p).few in
      elim (cases_lt n u) [ inl below ↦ omega (arith, h.state, s) | inr past ↦ omega (arith, c.1 past, t, s) ]

  -- Two entries of a state, one after the other, lead to states in that order.
  rises : (u i d : ℕ) → i + suc d < entries r u → slice_index r.targets (first r u + i) < slice_index r.targets (first r u + (i + suc d))
  rises u i zero h =
      let g = passes_target r p u (first r u + (i + 1)) (holds_at u (i + 1) h) in
      let here : first r u + (i + 1) - 1 ≡ first r u + i = omega arith in
      omega (arith, g.above (omega arith), ap (λ n. slice_index r.targets n) here)
  rises u i (suc d) h =
      let g = passes_target r p u (first r u + (i + suc (suc d))) (holds_at u (i + suc (suc d)) h) in
      let here : first r u + (i + suc (suc d)) - 1 ≡ first r u + (i + suc d) = omega arith in
      omega (arith, g.above (omega arith), ap (λ n. slice_index r.targets n) here, rises u i d (omega arith))

  two_apart : {u v c d i j : ℕ} → Stands u v c i → Stands u v d j → i < j → ⊥
  two_apart {u} {v} {c} {d} {i} {j} a b h =
      let gap : i + suc (j - i - 1) ≡ j = omega arith in
      omega (arith, rises u i (j - i - 1) (omega (arith, b.at)), ap (λ n. slice_index r.targets (first r u + n)) gap, a.to, b.to)

  once : {u v c d : ℕ} (a : Leads (tabled r) u v c) (b : Leads (tabled r) u v d) → a.place ≡ b.place
  once a b =
      elim (cases_order a.place b.place) [
        | inl same ↦ same
        | inr (inl less) ↦ absurd (two_apart (stands a) (stands b) less)
        | inr (inr more) ↦ absurd (two_apart (stands b) (stands a) more)
      ]

  cost_good : {u v c : ℕ} → Leads (tabled r) u v c → (1 ≤ c) × (c ≤ 1000)
  cost_good {u} a =
      let s = stands a in
      let g = passes_cost r p (first r u + a.place) (omega (arith, entry_in u a.place s.at, (passes_shape r p).alike)) in
      (omega (arith, g.0, s.costs), omega (arith, g.1, s.costs))

  low : (u : ℕ) → slice_index r.estimates u ≤ 1023000
  low u =
      elim (cases_lt u (states r)) [
        | inl h ↦ (passes_estimate r p u h).small
        | inr h ↦ omega (arith, get_or_past r.estimates u 0 h)
      ]

  pub passes_lawful : Lawful (tabled r)
  passes_lawful =
      record {
        states_least = (passes_shape r p).enough;
        states_most = (passes_shape r p).few;
        start_in = (passes_ends r p).start_in;
        goal_in = (passes_ends r p).goal_in;
        apart = (passes_ends r p).apart;
        places_most = λ u. omega (arith, row_length r u, few u (entries r u) refl);
        outside = λ u h. row_length r u ∙ none_outside u h;
        leads_in = λ {u} {v} {c} a.
            let s = stands a in
            omega (arith, (passes_target r p u (first r u + a.place) (stands_held s)).inside, s.to);
        leads_on = λ {u} {v} {c} a e.
            let s = stands a in
            (passes_target r p u (first r u + a.place) (stands_held s)).other (s.to ∙ e);
        cost_least = λ a. (cost_good a).0;
        cost_most = λ a. (cost_good a).1;
        once = once;
        estimate_most = low;
        outside_estimate = λ u h. get_or_past r.estimates u 0 h;
        goal_estimate = goal_nought;
        never_over = λ w. under w refl;
      }
