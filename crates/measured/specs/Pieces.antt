-- The pieces: small blanks, two pairs of ranks, and what the rules make of them. docs/SEARCH.md goes through them.
use Rattle.std.specs.Prelude.{◌≡◌, ℕ, true, false, [], ◌∷◌, Some, None}
use Rattle.course.specs.declared.refusal.Refusal.TheVariants.{SteepEstimate}
use Rattle.course.specs.Refusals.{number_of}
use Rattle.course.specs.Blanks.{Meaning, SameMeaning}
use Rattle.course.specs.Calls.{ceiling, set}
use Rattle.course.specs.Worked.{P}
use Rattle.table.specs.Table.{Rows, Passes, Worst}
use Rattle.tableblank.specs.Tabled.{tabled}
use Rattle.layers.specs.Rounded.{rounded}
use Rattle.raster.specs.Rastered.{rastered}
use Rattle.rank.specs.declared.share.ShareRank.{ShareRank}
use Rattle.rank.specs.contracts.share.ShareRankRank.TheImpl.{ghosts as share_ranks}
use Rattle.measured.specs.Moved.{Measured}

-- The rows of P, with an estimate h for its start.
abbrev pub rows_of_P : ℕ → Rows
rows_of_P h =
    record {
      firsts = 0 ∷ 2 ∷ 3 ∷ 4 ∷ 4 ∷ [];
      targets = 1 ∷ 2 ∷ 3 ∷ 3 ∷ [];
      costs = 30 ∷ 50 ∷ 60 ∷ 20 ∷ [];
      estimates = h ∷ 10 ∷ 20 ∷ 0 ∷ [];
      start = 0;
      goal = 3;
    }

-- The rows of R, which has a dear cut beside two cheap ones.
abbrev pub rows_of_R : Rows
rows_of_R =
    record {
      firsts = 0 ∷ 2 ∷ 3 ∷ 4 ∷ 4 ∷ [];
      targets = 1 ∷ 2 ∷ 2 ∷ 3 ∷ [];
      costs = 1 ∷ 10 ∷ 1 ∷ 31 ∷ [];
      estimates = 33 ∷ 32 ∷ 31 ∷ 0 ∷ [];
      start = 0;
      goal = 3;
    }

abbrev pub R : Meaning
R = tabled rows_of_R

-- A raster of two lines: the short way to its goal is dear.
abbrev pub two_lines : Meaning
two_lines = rastered (2 ∷ 9 ∷ 2 ∷ 2 ∷ 2 ∷ 2 ∷ []) 3 2 0 2

-- Of two share ranks the first goes before the second: it is no later, and the second is not.
pub record GoesBefore (a b : ShareRank) : Type 0 where
  pub no_later : share_ranks.precedes a b ≡ true
  pub later : share_ranks.precedes b a ≡ false

pub record PiecesMeasured : Type 0 where
  -- P under a ceiling: at 69 no route is left, and at 70 the one that costs 70 is found
  pub P_under_69 : Measured P ((ceiling 69, set) ∷ []) (0 ∷ 1 ∷ []) None 70
  pub P_under_70 : Measured P ((ceiling 70, set) ∷ []) (0 ∷ 1 ∷ 2 ∷ []) (Some (record { path = 0 ∷ 2 ∷ 3 ∷ []; cost = 70 })) 70
  -- the rows of P pass the checks and mean P; with 41 in place of 40 the estimate is too steep at entry 0
  pub P_passes : Passes (rows_of_P 40)
  pub P_meant : SameMeaning (tabled (rows_of_P 40)) P
  pub P_steep : Worst (rows_of_P 41) (number_of SteepEstimate) 0
  -- R, and R with its estimates lowered to multiples of 16, where state 2 is moved too early and once more
  pub R_straight : Measured R [] (0 ∷ 1 ∷ 2 ∷ []) (Some (record { path = 0 ∷ 1 ∷ 2 ∷ 3 ∷ []; cost = 33 })) 33
  pub R_rounded : Measured (rounded R 16) [] (0 ∷ 2 ∷ 1 ∷ 2 ∷ []) (Some (record { path = 0 ∷ 1 ∷ 2 ∷ 3 ∷ []; cost = 33 })) 33
  -- the larger share goes first, and of equal shares the smaller state
  pub larger_share : (u v : ℕ) → GoesBefore (record { over = 60; under = 30; state = u }) (record { over = 90; under = 50; state = v })
  pub smaller_state : GoesBefore (record { over = 40; under = 20; state = 3 }) (record { over = 60; under = 30; state = 4 })
  -- the raster's way round
  pub way_round : Measured two_lines [] (0 ∷ 3 ∷ 4 ∷ 5 ∷ []) (Some (record { path = 0 ∷ 3 ∷ 4 ∷ 5 ∷ 2 ∷ []; cost = 8 })) 8
