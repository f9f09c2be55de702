-- The pieces, measured: each run is computed.
use Rattle.std.proofs.Common.{ℕ, zero, suc, ◌≤◌, [], ◌∷◌, get_or, refl, arith}
use Rattle.course.specs.Blanks.{Lawful}
use Rattle.course.proofs.Worked.{worked_out}
use Rattle.tableblank.specs.Laws.{passes_lawful}
use Rattle.layers.specs.RoundedLaws.{rounded_lawful}
use Rattle.raster.specs.Laws.{rastered_lawful}
use Rattle.measured.specs.Pieces.{rows_of_R, R, two_lines, PiecesMeasured}
use Rattle.measured.proofs.Runs.{measured, begun, lowered}
use Rattle.measured.proofs.Rows.{P_passes, P_meant, P_steep, R_passes}

lawful_R : Lawful R
lawful_R = passes_lawful rows_of_R R_passes

lawful_two_lines : Lawful two_lines
lawful_two_lines = rastered_lawful (2 ∷ 9 ∷ 2 ∷ 2 ∷ 2 ∷ 2 ∷ []) 3 2 0 2 (omega arith) (omega arith) (omega arith) (omega arith) (omega arith) (λ e. omega arith) small
  where
    small : (k : ℕ) → get_or (2 ∷ 9 ∷ 2 ∷ 2 ∷ 2 ∷ 2 ∷ []) k 0 ≤ 255
    small zero = omega arith
    small (suc zero) = omega arith
    small (suc (suc zero)) = omega arith
    small (suc (suc (suc zero))) = omega arith
    small (suc (suc (suc (suc zero)))) = omega arith
    small (suc (suc (suc (suc (suc zero))))) = omega arith
    small (suc (suc (suc (suc (suc (suc k)))))) = omega arith

pub pieces_measured : PiecesMeasured
pieces_measured = record {
  P_under_69 = measured _ _ worked_out.lawful (lowered worked_out.lawful 69 (omega arith)) refl refl refl;
  P_under_70 = measured _ _ worked_out.lawful (lowered worked_out.lawful 70 (omega arith)) refl refl refl;
  P_passes = P_passes;
  P_meant = P_meant;
  P_steep = P_steep;
  R_straight = measured _ _ lawful_R (begun lawful_R) refl refl refl;
  R_rounded = measured _ _ (rounded_lawful R 16 lawful_R) (begun (rounded_lawful R 16 lawful_R)) refl refl refl;
  larger_share = λ u v. record { no_later = refl; later = refl };
  smaller_state = record { no_later = refl; later = refl };
  way_round = measured _ _ lawful_two_lines (begun lawful_two_lines) refl refl refl;
}
