use Rattle.std.proofs.Common.{[], ◌∷◌, length, vec_items, sym, ap, ◌∙◌, arith}
use Rattle.std.proofs.lemmas.List.{length-append}
use Rattle.reader.proofs.Steps.{passes_out}
use Rattle.reader.proofs.CutLines.{sofar_more, cut_fault, end_fault, sofar_end}
use Rattle.reader.proofs.marks.Reader.cut_line.Goals as goal

pub returns-in_err-cut : goal.returns-in_err-cut
returns-in_err-cut c =
    passes_out _ _ c.in_err-cut.field-0.0 c.from_residual.result c.from_residual.ensures.1
    (cut_fault c.loop-cuts.invariant (sym c.closes.ensures ∙ c.loop-cuts-test.true) (omega (arith, c.loop-cuts.cuts.targets.ok.0)) c.in_err-cut.ensures)

pub loop-cuts-smaller : goal.loop-cuts-smaller
loop-cuts-smaller c =
    let rows = c.loop-cuts.cuts.targets in
    let more = c.push.new.self.targets in
    let long = ap length c.in_ok-push.ensures.0 in
    omega (arith, rows.ok.0, more.ok.0, long, length-append (vec_items rows) (c.in_ok-cut.field-0.target ∷ []), c.len.ensures, c.if-len-ge-MOST_CUTS.false)

pub loop-cuts-preserved : goal.loop-cuts-preserved
loop-cuts-preserved c =
    sofar_more c.in_ok-cut.field-0.target c.in_ok-cut.field-0.cost c.loop-cuts.invariant (sym c.closes.ensures ∙ c.loop-cuts-test.true)
    (omega (arith, c.loop-cuts.cuts.targets.ok.0)) c.in_ok-cut.ensures c.in_ok-push.ensures.0 c.in_ok-push.ensures.1

pub returns-in_err-line_end : goal.returns-in_err-line_end
returns-in_err-line_end c =
    passes_out _ _ c.in_err-line_end.field-0.0 c.from_residual-in_err-line_end.result c.from_residual-in_err-line_end.ensures.1
    (end_fault c.loop-cuts.invariant (sym c.closes.ensures ∙ c.loop-cuts-test.false) c.in_err-line_end.ensures)

pub returns : goal.returns
returns c = sofar_end c.loop-cuts.invariant (sym c.closes.ensures ∙ c.loop-cuts-test.false) c.in_ok-line_end.ensures
