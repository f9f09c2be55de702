-- All that a life meets fits 32 bits: the costs by which states are reached, the moves, and the numbers that a wish ranks.
use Rattle.std.proofs.Common.{ℕ, ◌^◌, ◌<◌, arith}
use Rattle.course.specs.Blanks.{Meaning, Lawful}
use Rattle.course.specs.Machine.{Reach, State, limit, Seen, Least, Focal, numbers, Fits32}
use Rattle.course.specs.Calls.{Allowed}
use Rattle.course.proofs.Limit.{limit_ceiling}
use Rattle.course.proofs.Moves.{Kept}
use Rattle.course.proofs.Floor.{live_in}
use Rattle.course.proofs.Bounded.{PaidBy, ceiling_low, reach_low, few_moves}

-- The cost g by which a state was reached fits.
pub reach_fits : (m : Meaning) (s : State) → PaidBy m s → (u : ℕ) (r : Reach) → Seen s.mark u r → r.g < 2 ^ 32
reach_fits m s paid u r seen = omega (arith, reach_low m s paid u r seen)

-- The moves fit.
pub moves_fit : (m : Meaning) (s : State) → Lawful m → PaidBy m s → s.moves < 2 ^ 32
moves_fit m s law paid = omega (arith, few_moves m s paid, law.states_most)

-- The limit fits.
pub limit_fits : (m : Meaning) (s : State) → PaidBy m s → limit s < 2 ^ 32
limit_fits m s paid = omega (arith, ceiling_low m s paid, limit_ceiling s.ceiling s.standing)

-- The numbers of a state of the focal set fit.
pub numbers_fit :
    {m : Meaning} {s : State} {f u g : ℕ} → Lawful m → Kept m s → PaidBy m s → Allowed s.p s.q → Least m s f → Focal m s f u g
    → Fits32 (numbers m s f u g)
numbers_fit {m} {s} {f} {u} {g} law kept paid allowed least focal =
    let limit = limit_fits m s paid in
    record {
      state = omega (arith, live_in law kept focal.live, law.states_most);
      g = omega (arith, focal.live.below);
      h = omega (arith, law.estimate_most u);
      limit = omega arith;
      p = omega (arith, allowed.high);
      q = omega (arith, allowed.high, allowed.order);
      least = omega (arith, least.live.below, least.is);
    }
