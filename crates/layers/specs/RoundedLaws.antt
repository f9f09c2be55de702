-- A rounded blank keeps the laws, and rounding is what it says: the greatest multiple that is not above.
use Rattle.std.specs.Prelude.{ℕ, ◌*◌, ◌<◌, ◌≤◌, List}
use Rattle.std.proofs.Common.{div-mul-le_self, le-div_iff_mul-le, mul-le-mul_right, arith}
use Rattle.course.specs.Blanks.{Meaning, Leads, Walk, stay, cut, Lawful}
use Rattle.layers.specs.Rounded.{rounded, lowered}

-- it is not above, and no greater multiple is
pub lowered_under : (step x : ℕ) → lowered step x ≤ x
lowered_under step x = div-mul-le_self x step

pub lowered_greatest : (step x k : ℕ) → 0 < step → k * step ≤ x → k * step ≤ lowered step x
lowered_greatest step x k h le = mul-le-mul_right step ((le-div_iff_mul-le h).1 le)

module _ (m : Meaning) (step : ℕ) where
  abbrev led : {u v c : ℕ} → Leads (rounded m step) u v c → Leads m u v c
  led l = record { place = l.place; holds = l.holds }

  walked : {u w d : ℕ} {path : List ℕ} → Walk (rounded m step) u w path d → Walk m u w path d
  walked (stay u) = stay u
  walked (cut l rest) = cut (led l) (walked rest)

  pub rounded_lawful : Lawful m → Lawful (rounded m step)
  rounded_lawful laws = record {
    states_least = laws.states_least;
    states_most = laws.states_most;
    start_in = laws.start_in;
    goal_in = laws.goal_in;
    apart = laws.apart;
    places_most = laws.places_most;
    outside = laws.outside;
    leads_in = λ l. laws.leads_in (led l);
    leads_on = λ l. laws.leads_on (led l);
    cost_least = λ l. laws.cost_least (led l);
    cost_most = λ l. laws.cost_most (led l);
    once = λ a b. laws.once (led a) (led b);
    estimate_most = λ u. omega (arith, laws.estimate_most u, lowered_under step (m.estimate u));
    outside_estimate = λ u h. omega (arith, laws.outside_estimate u h, lowered_under step (m.estimate u));
    goal_estimate = omega (arith, laws.goal_estimate, lowered_under step (m.estimate m.goal));
    never_over = λ {u} w. omega (arith, laws.never_over (walked w), lowered_under step (m.estimate u));
  }
