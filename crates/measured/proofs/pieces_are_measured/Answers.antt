use Rattle.measured.proofs.Pieces.{pieces_measured}
use Rattle.measured.proofs.pieces_are_measured.Goals as goal

pub returns : goal.returns
returns c = pieces_measured
