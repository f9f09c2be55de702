-- Every text has a verdict.
use Rattle.std.proofs.Common.{refl, inl, inr}
use Rattle.table.proofs.Decided.{judged}
use Rattle.text.specs.Forms.{Got, got, fault}
use Rattle.text.specs.Document.{Document}
use Rattle.text.specs.Reading.{parsed}
use Rattle.text.specs.Rows.{table_rows}
use Rattle.text.specs.Verdicts.{Verdict, accepted, refused, Concludes}
use Rattle.text.specs.Promises.{VerdictStands}

pub verdict_stands : VerdictStands
verdict_stands text = go (parsed text)
  where
    go : (g : Got Document) → (v : Verdict) × Concludes g v
    go (got d p bs) =
        elim (judged (table_rows d)) [ inl h ↦ (accepted d, (refl, h)) | inr x ↦ (refused 3 x.0 x.1.0, (refl, x.1.1)) ]
    go (fault l c p) = (refused l c p, refl)
