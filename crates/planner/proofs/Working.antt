-- A work, look by look and move by move.
use Rattle.std.proofs.Common.{◌≡◌, ℕ, ◌+◌, ◌-◌, ◌<◌, ◌≤◌, List, Some, None, Option, unwrap_or, sym, subst, add-one, arith, MatchOption}
use Rattle.course.specs.declared.machine.Word.{Word}
use Rattle.course.specs.declared.machine.Word.TheVariants.{Done as done, Met as met, Spent as spent}
use Rattle.course.specs.Blanks.{Meaning, Lawful}
use Rattle.course.specs.Machine.{State, Order, limit, Move}
use Rattle.course.specs.Calls.{Call, Answer, Finished, Met, Works, is_done, is_met, is_spent, works, Life}
use Rattle.course.proofs.Floor.{Held, moved_held}
use Rattle.course.proofs.Bounded.{PaidBy, paid_move, few_moves}
use Rattle.course.proofs.Lives.{life_held, life_paid}
use Rattle.course.proofs.Words.{words_meant}
use Rattle.planner.specs.Lives.{HasLife}
use Rattle.planner.proofs.Surely.{surely_meant}
use Rattle.planner.specs.Calls.{AcceptedWork}
use Rattle.course.proofs.Works.{Ran, not_yet, one_more, ran_stops}
use Rattle.planner.specs.Searches.{Stops}
use Rattle.planner.specs.Scans.{FoundLeast}

-- i moves have been made from s, the last of them to y.
pub record Working (m : Meaning) (ord : Order) (s : State) (i : ℕ) (y : State) : Type 0 where
  pub ran : Ran m ord s i y
  pub held : Held m y
  pub paid : PaidBy m y

-- Before the first.
pub working_first : {m : Meaning} {ord : Order} {s : State} {cs : List (Call × Answer)} → Lawful m → Life m ord cs s → Working m ord s 0 s
working_first law life = record { ran = not_yet; held = life_held law life; paid = life_paid law life }

-- A state where no look tells a work to stop has its floor below the limit.
pub working_low : (y : State) → (Finished y → ⊥) × (Met y → ⊥) → y.floor < limit y
working_low y on = lower y.floor (limit y) on.0
  where
    lower : (a b : ℕ) → (b ≤ a → ⊥) → a < b
    lower a b no_more = omega arith

-- What a move, asked for at a state, ensures, where least is the least sum before it and after the one after it.
abbrev pub Moves : Meaning → Order → ℕ → ℕ → State → Option ℕ → Option ℕ → State → Type 0
Moves m ord costs row y least after z =
    Held m y → FoundLeast m y least → m.states ≤ costs → m.states ≤ row → y.moves < 4294967295 → y.floor < limit y
    → Move m ord y z × FoundLeast m z after

module _ {m : Meaning} {ord : Order} {s : State} {i : ℕ} {y : State} where
  -- One more.
  pub working_more : {z : State} → Lawful m → (Finished y → ⊥) × (Met y → ⊥) → Move m ord y z → Working m ord s i y → Working m ord s (i + 1) z
  working_more {z} law on move now = record {
    ran = subst (λ (k : ℕ). Ran m ord s k z) (sym (add-one i)) (one_more now.ran on.0 on.1 move);
    held = moved_held law now.held move;
    paid = paid_move m ord law y z move now.paid;
  }

  -- A move more can be counted.
  pub working_count : Lawful m → Working m ord s i y → y.moves < 4294967295
  working_count law now = omega (arith, few_moves m y now.paid, law.states_most)

  -- It is made.
  pub working_moves : {costs row : ℕ} (least : Option ℕ) (after : Option ℕ) (z : State) → Lawful m → m.states ≤ costs → m.states ≤ row → (Finished y → ⊥) × (Met y → ⊥) → Moves m ord costs row y least after z → Working m ord s i y → FoundLeast m y least → Move m ord y z × FoundLeast m z after
  working_moves least after z law cost_room room on moves now found = moves now.held found cost_room room (working_count law now) (working_low y on)

  -- A look tells it to stop.
  pub working_stops : {b : ℕ} (w : Word) → i ≤ b → Stops w y → Working m ord s i y → Works m ord b s w i y
  working_stops done low f now = ran_stops now.ran low (is_done f)
  working_stops met low f now = ran_stops now.ran low (is_met f.0 f.1)
  working_stops spent low f now = absurd f

  -- The budget is spent.
  pub working_spent : {b : ℕ} → i ≡ b → (Finished y → ⊥) × (Met y → ⊥) → Working m ord s i y → Works m ord b s spent i y
  working_spent {b} all on now =
      let none : 0 ≡ b - i = omega arith in
      ran_stops now.ran (omega arith) (subst (λ (k : ℕ). Works m ord k y spent 0 y) none (is_spent on.0 on.1))

  -- The word that the last look gives, or spent where it gives none.
  pub working_ends : {b : ℕ} {word : Word} (seen : Option Word) → i ≡ b → unwrap_or seen spent ≡ word → MatchOption seen ((Finished y → ⊥) × (Met y → ⊥)) (λ w. Stops w y) → Working m ord s i y → Works m ord b s word i y
  working_ends {b} None all e on now = subst (λ (w : Word). Works m ord b s w i y) e (working_spent all on now)
  working_ends {b} (Some w) all e stops now = subst (λ (x : Word). Works m ord b s x i y) e (working_stops w (omega arith) stops now)

-- The same at an equal count.
pub working_at : {m : Meaning} {ord : Order} {s y : State} {i j : ℕ} → i ≡ j → Working m ord s i y → Working m ord s j y
working_at {m} {ord} {s} {y} e now = subst (λ (k : ℕ). Working m ord s k y) e now

-- An accepted work of a last, where its rows and its budget are allowed and, after every life, it worked.
pub accepted_work : {m : Meaning} {ord : Order} {s z : State} {budget cost_row wish_row count : ℕ} {word : Word} → Lawful m → HasLife m ord s → m.states ≤ cost_row → m.states ≤ wish_row → budget ≤ 65535 → ((cs : List (Call × Answer)) → Life m ord cs s → Works m ord budget s word count z) → AcceptedWork m ord s budget cost_row wish_row word count z
accepted_work {m} {ord} {s} {z} {budget} {cost_row} {wish_row} {count} {word} law lived costs wishes low worked = record {
  cost_room = costs;
  wish_room = wishes;
  allowed = low;
  does = record { some = lived; every = λ cs life. works costs wishes low (worked cs life) };
  meant = surely_meant lived (λ cs life. words_meant m ord law cs s life budget cost_row wish_row count word z (works costs wishes low (worked cs life)));
}
