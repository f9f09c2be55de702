use Rattle.std.proofs.Common.{◌∙◌, inl, inr, arith}
use Rattle.table.specs.Checks.{rows_in}
use Rattle.tableblank.proofs.Parts.{none_there, cut_there}
use Rattle.tableblank.proofs.table_blank.TableBlank.cut.Goals as goal

pub returns-in_err-get : goal.returns-in_err-get
returns-in_err-get c =
    let x = c.args.self.now in
    let e = c.row.ensures in
    c.from_residual.ensures ∙ none_there (rows_in x.rows) x.sound c.args.state _ _ e.targets e.costs c.args.place (inl (omega (arith, c.in_err-get.ensures.lookup)))

pub returns-in_err-get-2 : goal.returns-in_err-get-2
returns-in_err-get-2 c =
    let x = c.args.self.now in
    let e = c.row.ensures in
    c.from_residual-in_err-get-2.ensures
    ∙ none_there (rows_in x.rows) x.sound c.args.state _ _ e.targets e.costs c.args.place (inr (omega (arith, c.in_err-get-2.ensures.lookup)))

pub returns : goal.returns
returns c =
    let x = c.args.self.now in
    let e = c.row.ensures in
    cut_there (rows_in x.rows) x.sound c.args.state _ _ e.targets e.costs _ c.args.place _ _ (c.in_ok-get.ensures.lookup.3.1 0)
    (c.in_ok-get-2.ensures.lookup.3.1 0)
    (omega (arith, c.in_ok-get.ensures.lookup))
    (omega (arith, c.in_ok-get.ensures.lookup))
