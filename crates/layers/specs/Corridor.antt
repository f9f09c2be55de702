-- A blank for the tests: 81 states in a row, from 0 to 80, each with one cut to the next at cost 1.
use Rattle.std.specs.Prelude.{◌≡◌, ℕ, zero, suc, ◌+◌, ◌-◌, ◌≤◌, Bool, true, false, List, [], ◌∷◌, length, Some, None, Option, nat_lt, slice_index_or, refl}
use Rattle.std.proofs.Common.{sym, ap, arith}
use Rattle.std.proofs.lemmas.Bool.{ltb-true, le-ltb}
use Rattle.course.specs.Blanks.{Meaning, Leads, Walk, stay, cut, Lawful}

-- the places of u, which has a next state or not
abbrev pub onward : Bool → ℕ → List (Option (ℕ × ℕ))
onward true u = Some (u + 1, 1) ∷ []
onward false u = []

abbrev pub corridor : Meaning
corridor = record { states = 81; start = 0; goal = 80; places = λ u. onward (nat_lt u 80) u; estimate = λ u. 80 - u }

-- what every cut is
record Step (next : Bool) (u place v c : ℕ) : Type 0 where
  there : next ≡ true
  first : place ≡ 0
  to : v ≡ u + 1
  one : c ≡ 1

step : (b : Bool) (u place v c : ℕ) → slice_index_or (onward b u) place None ≡ Some (v, c) → Step b u place v c
step true u zero v c e =
    let pair : ◌≡◌ {A = ℕ × ℕ} (u + 1, 1) (v, c) = cc in
    record { there = refl; first = refl; to = sym (ap (λ (x : ℕ × ℕ). x.0) pair); one = sym (ap (λ (x : ℕ × ℕ). x.1) pair) }
step true u (suc i) v c e = absurd cc
step false u i v c e = absurd cc

taken : {u v c : ℕ} (l : Leads corridor u v c) → Step (nat_lt u 80) u l.place v c
taken {u} {v} {c} l = step (nat_lt u 80) u l.place v c l.holds

short : (b : Bool) (u : ℕ) → length (onward b u) ≤ 1023
short true u = omega arith
short false u = omega arith

far : {u w d : ℕ} {path : List ℕ} → Walk corridor u w path d → w - u ≤ d
far (stay u) = omega arith
far (cut l rest) = omega (arith, (taken l).to, (taken l).one, far rest)

pub corridor_lawful : Lawful corridor
corridor_lawful = record {
  states_least = omega arith;
  states_most = omega arith;
  start_in = omega arith;
  goal_in = omega arith;
  apart = λ e. omega arith;
  places_most = λ u. short (nat_lt u 80) u;
  outside = λ u h. ap (λ b. length (onward b u)) (le-ltb u 80 (omega arith));
  leads_in = λ {u} l. omega (arith, (taken l).to, ltb-true u 80 (taken l).there);
  leads_on = λ l e. omega (arith, (taken l).to);
  cost_least = λ l. omega (arith, (taken l).one);
  cost_most = λ l. omega (arith, (taken l).one);
  once = λ a b. omega (arith, (taken a).first, (taken b).first);
  estimate_most = λ u. omega arith;
  outside_estimate = λ u h. omega arith;
  goal_estimate = refl;
  never_over = far;
}
