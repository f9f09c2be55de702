use Rattle.std.proofs.Common.{◌<◌, ◌≤◌, ap, ◌∙◌, arith, rules}
use Rattle.std.proofs.lemmas.List.{take_all}
use Rattle.std.specs.Str.Parse.{digits_value}
use Rattle.reader.proofs.Numbers.{digit_at}
use Rattle.reader.proofs.marks.value_of.Goals as goal

pub overflow_sub-b : goal.overflow_sub-b
overflow_sub-b c = let d = digit_at c.args.digits.now c.loop-b.b-index c.requires c.loop-b-test.true in omega arith

pub overflow_mul-n : goal.overflow_mul-n
overflow_mul-n c =
    let d = digit_at c.args.digits.now c.loop-b.b-index c.requires c.loop-b-test.true in
    let small : c.loop-b.n < 10000000 = omega (arith, c.loop-b.invariant) in
    search rules

pub overflow_add-n : goal.overflow_add-n
overflow_add-n c =
    let d = digit_at c.args.digits.now c.loop-b.b-index c.requires c.loop-b-test.true in
    let small : c.loop-b.n < 10000000 = omega (arith, c.loop-b.invariant) in
    let one : c.from.result ≤ 9 = omega (arith, c.from.ensures) in
    search rules

pub loop-b-preserved : goal.loop-b-preserved
loop-b-preserved c =
    let d = digit_at c.args.digits.now c.loop-b.b-index c.requires c.loop-b-test.true in
    let e = d.more in
    let i = c.loop-b.invariant in
    omega arith

pub returns : goal.returns
returns c = c.loop-b.invariant ∙ ap (digits_value 10) (take_all c.loop-b.b-index c.args.digits.now (omega arith))
