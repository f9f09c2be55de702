-- What follows of a state that some life led to.
use Rattle.std.proofs.Common.{ℕ, ◌≤◌, List, ◌∷◌, arith}
use Rattle.std.proofs.Math.Logic.{∥∥₁_elim, ∥∥₁_map}
use Rattle.std.proofs.Math.Bridge.{le_prop}
use Rattle.course.specs.Blanks.{Meaning, Lawful}
use Rattle.course.specs.Machine.{State, Order}
use Rattle.course.specs.declared.machine.Word.{Word}
use Rattle.course.specs.Calls.{Call, work, Answer, worked as answered, Works, Does, works, Life, then}
use Rattle.course.specs.Promises.{LowerBound}
use Rattle.course.proofs.Lives.{lives_sound}
use Rattle.planner.specs.Lives.{HasLife, AfterLives}

module _ {m : Meaning} {ord : Order} {s : State} where
  -- Its floor is under every route.
  pub floor_lived : Lawful m → HasLife m ord s → LowerBound m s.floor
  floor_lived law lived path c route = ∥∥₁_elim lived le_prop (λ l. (lives_sound m ord law l.0 s l.1).floor_under path c route)

  -- A call that is made after every life leads on.
  pub led_on : {c : Call} {a : Answer} {z : State} → AfterLives m ord s (λ cs. Does m ord s c a z) → HasLife m ord z
  led_on {c} {a} after = ∥∥₁_map after.some (λ l. ((c, a) ∷ l.0, then l.1 (after.every l.0 l.1)))

  -- So does a call by the rules.
  pub led_by : {c : Call} {a : Answer} {z : State} → Does m ord s c a z → HasLife m ord s → HasLife m ord z
  led_by {c} {a} does lived = ∥∥₁_map lived (λ l. ((c, a) ∷ l.0, then l.1 does))

  -- So does a work that is made after every life.
  pub led_by_work : {count : ℕ} {word : Word} {z : State} (budget : ℕ) → budget ≤ 65535 → HasLife m ord s → ((cs : List (Call × Answer)) → Life m ord cs s → Works m ord budget s word count z) → HasLife m ord z
  led_by_work {count} {word} budget low lived worked =
      let room : m.states ≤ m.states = omega arith in
      ∥∥₁_map lived (λ l. ((work budget m.states m.states, answered word count) ∷ l.0, then l.1 (works room room low (worked l.0 l.1))))
