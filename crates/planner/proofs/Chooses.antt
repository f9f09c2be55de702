-- The choice of a state, by a queue of the focal set's ranks.
use Rattle.std.proofs.Common.{◌≡◌, ℕ, ◌<◌, Bool, Some, None, Option, MatchOption, sym, ◌∙◌, subst, arith}
use Rattle.wish.specs.Wished.{order_of}
use Rattle.course.specs.declared.machine.Numbers.{Numbers}
use Rattle.course.specs.Blanks.{Meaning}
use Rattle.course.specs.Machine.{State, numbers, Focal, Chosen}
use Rattle.planner.specs.Scans.{Inside, FirstRanked, none, some}
use Rattle.planner.proofs.Scans.{live_one}
use Rattle.planner.proofs.Gathers.{Ranks, first_wanted}

module _ {R : Type 0} (m : Meaning) (s : State) (f : ℕ) (rank : Numbers → R) where
  -- What may be answered of u: its rank, where it is in the focal set.
  abbrev pub FocalRank : ℕ → Option R → Type 0
  FocalRank = Ranks (Focal m s f) (λ u k. rank (numbers m s f u k))

  module _ {states : ℕ} (answers : ℕ → Option R → Type 0) (all : states ≡ m.states) (inside : Inside m s) where
    -- Whose rank is first is chosen, and where no state has a rank, the focal set is empty.
    pub chooses : (state : R → ℕ) (precedes : R → R → Bool) (o : Option ℕ) → FirstRanked state precedes answers states o → ((u : ℕ) (o : Option R) → u < states → answers u o → FocalRank u o) → ((x : Numbers) → state (rank x) ≡ x.state) → MatchOption o ((u g : ℕ) → Focal m s f u g → ⊥) (λ n. (g : ℕ) × Chosen m (order_of rank precedes) s f n g)
    chooses state precedes None (none h) ranks carries = λ u g focal. let low : u < states = omega (arith, all, inside u _ focal.live.is_open) in ranks u None low (h u low) g focal
    chooses state precedes (Some _) (some n found) ranks carries =
        let first = first_wanted {made = λ u k. rank (numbers m s f u k)} ranks (λ u a b x y. live_one x.live y.live) found in
        let same : first.u ≡ n = sym (first.is ∙ carries (numbers m s f first.u first.g)) in
        (first.g, subst (λ (v : ℕ). Chosen m (order_of rank precedes) s f v first.g) same (record { focal = first.wanted; first = λ u k other. first.first u k (omega (arith, all, inside u _ other.live.is_open)) other }))
