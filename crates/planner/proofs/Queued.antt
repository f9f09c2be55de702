-- The least sum, by a queue of the live states' cost ranks.
use Rattle.std.proofs.Common.{◌≡◌, ℕ, ◌<◌, ◌≤◌, Bool, leb, Some, None, Option, sym, ap, ◌∙◌, subst, arith}
use Rattle.std.proofs.lemmas.Bool.{leb-true, and_parts}
use Rattle.rank.specs.declared.cost.CostRank.{CostRank}
use Rattle.rank.specs.Orders.{by_state}
use Rattle.course.specs.Blanks.{Meaning}
use Rattle.course.specs.Machine.{State, sum, Live, NoLive}
use Rattle.planner.specs.Scans.{Inside, FoundLeast, FirstRanked, none, some}
use Rattle.planner.proofs.Scans.{FoundSum, live_one}
use Rattle.planner.proofs.Gathers.{Ranks, FirstWanted, first_wanted}

-- The rank of a live state, how ranks are ordered, and the state of a rank.
abbrev pub cost_rank : Meaning → ℕ → ℕ → CostRank
cost_rank m u g = record { sum = sum m u g; state = u }

abbrev pub no_dearer : CostRank → CostRank → Bool
no_dearer = by_state (λ x y. leb x.sum y.sum) (λ x. x.state)

abbrev pub state_of : CostRank → ℕ
state_of x = x.state

module _ (m : Meaning) (s : State) where
  -- What may be answered of u: its cost rank, where it is live.
  abbrev pub LiveRank : ℕ → Option CostRank → Type 0
  LiveRank = Ranks (Live m s) (cost_rank m)

  module _ {states : ℕ} (answers : ℕ → Option CostRank → Type 0) (all : states ≡ m.states) (inside : Inside m s) where
    -- Whose rank is first is live, and its sum, which is found, is the least.
    pub cost_found : {n : ℕ} (found : Option ℕ) → FirstRanked state_of no_dearer answers states (Some n) → FoundSum m s n found → ((u : ℕ) (o : Option CostRank) → u < states → answers u o → LiveRank u o) → FoundLeast m s found
    cost_found found (some n chosen) sum_found ranks = at found sum_found
      where
        first : FirstWanted state_of no_dearer (Live m s) (cost_rank m) states n
        first = first_wanted {made = cost_rank m} ranks (λ u a b x y. live_one x y) chosen

        here : Live m s n first.g
        here = subst (λ (v : ℕ). Live m s v first.g) (sym first.is) first.wanted

        at : (found : Option ℕ) → FoundSum m s n found → FoundLeast m s found
        at None dead = absurd (dead first.g here)
        at (Some t) (g, live, is) =
            let cost : sum m n first.g ≡ t = ap (sum m n) (live_one here live) ∙ sym is in
            record {
              at = n;
              at_g = first.g;
              live = here;
              is = cost;
              none_less = λ v b other.
                  let least : sum m first.u first.g ≤ sum m v b = leb-true (sum m first.u first.g) (sum m v b) (and_parts _ _ (first.first v b (omega (arith, all, inside v _ other.is_open)) other)).0 in
                  omega (arith, ap (λ v. sum m v first.g) first.is, cost, least);
            }

    -- Where no state has a rank, none is live.
    pub cost_none : FirstRanked state_of no_dearer answers states None → ((u : ℕ) (o : Option CostRank) → u < states → answers u o → LiveRank u o) → NoLive m s
    cost_none (none h) ranks u g live = let low : u < states = omega (arith, all, inside u _ live.is_open) in ranks u None low (h u low) g live
