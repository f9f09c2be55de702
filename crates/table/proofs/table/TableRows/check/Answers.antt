use Rattle.std.proofs.Common.{◌≡◌, sym, subst}
use Rattle.course.specs.declared.refusal.Refusal.TheVariants.{BadCost, BadEstimate}
use Rattle.table.specs.Table.{Rows, Bad}
use Rattle.table.specs.Checks.{rows_in, First}
use Rattle.table.proofs.Causes.{From, from_more, from_seven, past, decided}
use Rattle.table.proofs.table.TableRows.check.Goals as goal
use Rattle.table.proofs.table.TableRows.check.Goals.{In_ok-aimed, In_ok-absent-2}

-- The rows of the last step are the ones that are checked.
same : (c : In_ok-aimed) → rows_in c.in_ok-aimed.aimed.whole.rows ≡ rows_in c.args.self.now
same c = c.in_ok-aimed.ensures

past_targets : (c : In_ok-aimed) → From (rows_in c.args.self.now) 8
past_targets c =
    let a = c.in_ok-aimed.aimed in
    let P : Rows → Type 0 = λ r. From r 8 in
    subst P (same c) (from_more _ 7 (from_seven _ a.whole.shape a.whole.ends) a.aimed)

pub returns : goal.returns
returns c =
    let r = rows_in c.args.self.now in
    let before = (goal.at.returns c).In_ok-aimed in
    let past8 = past r BadCost _ _ (past_targets before) c.first_bad_cost.ensures (sym c.in_ok-absent.ensures) in
    let past9 = past r BadEstimate _ _ past8 c.first_bad_estimate.ensures (sym c.in_ok-absent-2.ensures) in
    let P : Rows → Type 0 = λ r. First (Bad r 10) c.first_steep_estimate.result in
    decided r _ _ past9 (subst P (same before) c.first_steep_estimate.ensures) c.absent-3.ensures
