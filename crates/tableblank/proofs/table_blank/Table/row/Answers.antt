use Rattle.std.proofs.Common.{sym, arith}
use Rattle.table.specs.Checks.{rows_in}
use Rattle.tableblank.proofs.Parts.{part_none, past_last, fits}
use Rattle.tableblank.proofs.table_blank.Table.row.Goals as goal

pub returns-then-u-self-clause-targets : goal.returns-then-u-self-clause-targets
returns-then-u-self-clause-targets c =
    let x = c.args.self.now in
    sym (part_none x.rows.targets.now _ _ (omega (arith, past_last (rows_in x.rows) x.sound c.args.state c.if-u-self.true)))

pub returns-then-u-self-clause-costs : goal.returns-then-u-self-clause-costs
returns-then-u-self-clause-costs c =
    let x = c.args.self.now in
    sym (part_none x.rows.costs.now _ _ (omega (arith, past_last (rows_in x.rows) x.sound c.args.state c.if-u-self.true)))

pub bounds-self-u : goal.bounds-self-u
bounds-self-u c = let x = c.args.self.now in omega (arith, fits (rows_in x.rows) x.sound c.args.state c.if-u-self.false)

pub bounds-self-u-2 : goal.bounds-self-u-2
bounds-self-u-2 c = let x = c.args.self.now in omega (arith, fits (rows_in x.rows) x.sound c.args.state c.if-u-self.false)

pub slice_bounds-result-count : goal.slice_bounds-result-count
slice_bounds-result-count c = let x = c.args.self.now in omega (arith, fits (rows_in x.rows) x.sound c.args.state c.if-u-self.false)

pub slice_bounds-result-start : goal.slice_bounds-result-start
slice_bounds-result-start c = let x = c.args.self.now in omega (arith, fits (rows_in x.rows) x.sound c.args.state c.if-u-self.false)

pub slice_bounds-result-end-2 : goal.slice_bounds-result-end-2
slice_bounds-result-end-2 c = let x = c.args.self.now in omega (arith, fits (rows_in x.rows) x.sound c.args.state c.if-u-self.false)

pub slice_bounds-result-count-2 : goal.slice_bounds-result-count-2
slice_bounds-result-count-2 c = let x = c.args.self.now in omega (arith, fits (rows_in x.rows) x.sound c.args.state c.if-u-self.false)

pub slice_bounds-result-start-2 : goal.slice_bounds-result-start-2
slice_bounds-result-start-2 c = let x = c.args.self.now in omega (arith, fits (rows_in x.rows) x.sound c.args.state c.if-u-self.false)

pub slice_bounds-result-end-3 : goal.slice_bounds-result-end-3
slice_bounds-result-end-3 c = let x = c.args.self.now in omega (arith, fits (rows_in x.rows) x.sound c.args.state c.if-u-self.false)
