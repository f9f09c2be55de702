use Rattle.std.proofs.Common.{refl}
use Rattle.std.proofs.lemmas.Bool.Decides.{not_from_Decides}
use Rattle.table.proofs.Causes.{worst_shape, worst_ends}
use Rattle.table.proofs.table.TableRows.whole.Goals as goal

pub returns-then-not-fits_together : goal.returns-then-not-fits_together
returns-then-not-fits_together c = worst_shape _ (not_from_Decides _ c.fits_together.ensures c.if-not-fits_together.true)

pub returns-then-not-has_two_ends : goal.returns-then-not-has_two_ends
returns-then-not-has_two_ends c =
    worst_ends _ (c.if-not-fits_together.ensures.0 refl) (not_from_Decides _ c.has_two_ends.ensures c.if-not-has_two_ends.true)
