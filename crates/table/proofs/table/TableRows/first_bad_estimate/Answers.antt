use Rattle.std.proofs.Common.{rules, tests}
use Rattle.std.proofs.lemmas.Iterator.{first_from_Range}
use Rattle.table.specs.Table.{GoodEstimate}
use Rattle.table.specs.Checks.{rows_in}
use Rattle.table.proofs.Causes.{first_estimate}
use Rattle.table.proofs.table.TableRows.first_bad_estimate.Goals as goal

pub returns : goal.returns
returns c =
    let r = rows_in c.args.self.now in
    first_estimate r c.find.result
    (first_from_Range _ _ _ c.find.result (λ s. GoodEstimate r s → ⊥) (GoodEstimate r) c.find.ensures.ran
    (λ x q k. search (rules, tests))
    (λ x q k. (search rules, search (rules, tests))))
