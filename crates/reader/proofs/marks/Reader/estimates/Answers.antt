use Rattle.std.proofs.Common.{ℕ, List, ◌+◌, ◌-◌, is_ok, sym, ap, subst, arith}
use Rattle.std.proofs.ResultArms.{chosen}
use Rattle.text.specs.Document.{spaced_numbers}
use Rattle.reader.proofs.Steps.{went_then, stopped_first, stopped_then, passes_out}
use Rattle.reader.proofs.Estimates.{Left, left_all, left_none, left_number, number_fault, left_fault, left_end}
use Rattle.reader.proofs.marks.Reader.estimates.Goals as goal

pub returns-in_err-opening : goal.returns-in_err-opening
returns-in_err-opening c =
    passes_out _ _ c.in_err-opening.field-0.0 c.from_residual.result c.from_residual.ensures.1
    (stopped_first (spaced_numbers c.args.states) c.in_err-opening.ensures).tells

pub loop-i-init : goal.loop-i-init
loop-i-init c = left_all c.args.states _ c.opening.new.self c.new-estimates.ensures.items

pub returns-in_err-spaced_number : goal.returns-in_err-spaced_number
returns-in_err-spaced_number c =
    passes_out _ _ c.in_err-spaced_number.field-0.0 c.from_residual-in_err-spaced_number.result c.from_residual-in_err-spaced_number.ensures.1
    (stopped_then c.in_ok-opening.ensures (number_fault c.loop-i.invariant c.loop-i-test.true c.in_err-spaced_number.ensures)).tells

pub loop-i-preserved : goal.loop-i-preserved
loop-i-preserved c =
    let n = c.args.states in
    let pushed = chosen {X = List ℕ} _ _ _ _ c.push.ensures.items (ap is_ok c.in_ok-push.was) in
    subst (λ xs. Left (spaced_numbers n) (spaced_numbers (n - (c.loop-i._i + 1))) xs c.opening.new.self c.spaced_number.new.self) (sym pushed)
    (left_number c.in_ok-spaced_number.field-0 c.loop-i.invariant c.loop-i-test.true c.in_ok-spaced_number.ensures)

pub returns-in_err-line_end : goal.returns-in_err-line_end
returns-in_err-line_end c =
    passes_out _ _ c.in_err-line_end.field-0.0 c.from_residual-in_err-line_end.result c.from_residual-in_err-line_end.ensures.1
    (stopped_then c.in_ok-opening.ensures (left_fault (left_none c.loop-i.invariant (omega arith)) c.in_err-line_end.ensures)).tells

pub returns : goal.returns
returns c = went_then c.in_ok-opening.ensures (left_end (left_none c.loop-i.invariant (omega arith)) c.in_ok-line_end.ensures)
