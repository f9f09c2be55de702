-- A blank with knots keeps the laws.
use Rattle.std.specs.Prelude.{◌≡◌, ℕ, Bool, true, false, cond, List, map, Some, None, Option, slice_index_or}
use Rattle.std.proofs.Common.{sym, ◌∙◌}
use Rattle.std.proofs.lemmas.List.{length-map}
use Rattle.std.proofs.Math.ListN.{get_or-map}
use Rattle.course.specs.Blanks.{Meaning, Leads, Walk, stay, cut, Lawful}
use Rattle.layers.specs.Knotted.{barring, knotted}

pub barred_at : (marked : ℕ → Bool) (l : List (Option (ℕ × ℕ))) (place : ℕ) → slice_index_or (map (barring marked) l) place None ≡ barring marked (slice_index_or l place None)
barred_at marked l place = get_or-map (barring marked) l place None

-- a cut that is left was there
was : (marked : ℕ → Bool) (o : Option (ℕ × ℕ)) (p : ℕ × ℕ) → barring marked o ≡ Some p → o ≡ Some p
was marked None p e = e
was marked (Some q) p e = elim (marked q.0) as (λ b. cond b None (Some q) ≡ Some p → Some q ≡ Some p) [ true ↦ λ e. cc | false ↦ λ e. e ] e

module _ (m : Meaning) (marked : ℕ → Bool) where
  abbrev led : {u v c : ℕ} → Leads (knotted m marked) u v c → Leads m u v c
  led {u} {v} {c} l = record { place = l.place; holds = was marked (slice_index_or (m.places u) l.place None) (v, c) (sym (barred_at marked (m.places u) l.place) ∙ l.holds) }

  walked : {u w d : ℕ} {path : List ℕ} → Walk (knotted m marked) u w path d → Walk m u w path d
  walked (stay u) = stay u
  walked (cut l rest) = cut (led l) (walked rest)

  pub knotted_lawful : Lawful m → Lawful (knotted m marked)
  knotted_lawful laws = record {
    states_least = laws.states_least;
    states_most = laws.states_most;
    start_in = laws.start_in;
    goal_in = laws.goal_in;
    apart = laws.apart;
    places_most = λ u. rw length-map (laws.places_most u);
    outside = λ u h. rw length-map (laws.outside u h);
    leads_in = λ l. laws.leads_in (led l);
    leads_on = λ l. laws.leads_on (led l);
    cost_least = λ l. laws.cost_least (led l);
    cost_most = λ l. laws.cost_most (led l);
    once = λ a b. laws.once (led a) (led b);
    estimate_most = laws.estimate_most;
    outside_estimate = laws.outside_estimate;
    goal_estimate = laws.goal_estimate;
    never_over = λ w. laws.never_over (walked w);
  }
