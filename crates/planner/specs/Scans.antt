-- What a scan of the states finds.
use Rattle.std.specs.Prelude.{◌≡◌, ℕ, ◌<◌, ◌≤◌, Bool, true, Option, Some, None, MatchOption}
use Rattle.course.specs.Blanks.{Meaning}
use Rattle.course.specs.declared.machine.Reach.{Reach}
use Rattle.course.specs.declared.machine.Mark.TheVariants.{Open}
use Rattle.course.specs.Machine.{State, sum, Live, Least, NoLive}

-- Every open state is a state of the blank, so that a scan of those meets it. It is said of a blank and a search, which are lent to a scan apart:
-- so it is a premise of each scan's contract, and no fact that a struct could keep.
abbrev pub Inside : Meaning → State → Type 0
Inside m s = (u : ℕ) (r : Reach) → s.mark u ≡ Open r → u < m.states

-- The least sum of the live states, or none where no state is live.
abbrev pub FoundLeast : Meaning → State → Option ℕ → Type 0
FoundLeast m s least = MatchOption least (NoLive m s) (Least m s)

-- Of the states below n, none is live.
abbrev pub NoneBelow : Meaning → State → ℕ → Type 0
NoneBelow m s n = (u g : ℕ) → u < n → Live m s u g → ⊥

-- Of the states below n, f is the least sum of a live one.
pub record LeastBelow (m : Meaning) (s : State) (n f : ℕ) : Type 0 where
  pub at : ℕ
  pub at_g : ℕ
  pub live : Live m s at at_g
  pub is : sum m at at_g ≡ f
  pub none_less : (u g : ℕ) → u < n → Live m s u g → f ≤ sum m u g

-- Of the states below `states`, one was answered a first rank, which carries n: none was answered a rank that goes before it. What may be answered
-- of a state, a rank or none, `answers` says.
pub record FirstRank {R : Type 0} (state : R → ℕ) (precedes : R → R → Bool) (answers : ℕ → Option R → Type 0) (states n : ℕ) : Type 0 where
  pub at : ℕ
  pub rank : R
  pub low : at < states
  pub answered : answers at (Some rank)
  pub carried : n ≡ state rank
  pub first : (u : ℕ) → u < states → (o : Option R) × answers u o × MatchOption o (Unit {0}) (λ x. precedes rank x ≡ true)

-- What a search for a first rank finds: none was answered a rank, or what a first rank carries.
pub data FirstRanked {R : Type 0} (state : R → ℕ) (precedes : R → R → Bool) (answers : ℕ → Option R → Type 0) (states : ℕ) : Option ℕ → Type 0 where
  none : ((u : ℕ) → u < states → answers u None) → FirstRanked state precedes answers states None
  some : (n : ℕ) → FirstRank state precedes answers states n → FirstRanked state precedes answers states (Some n)
