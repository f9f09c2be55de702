use Rattle.std.proofs.Common.{◌<◌, length, arith}
use Rattle.course.specs.Machine.{end}
use Rattle.course.proofs.Cuts.{cuts_more, cuts_all}
use Rattle.course.proofs.Moves.{during_more}
use Rattle.planner.proofs.search.Search.expand.Goals as goal

pub loop-place-init : goal.loop-place-init
loop-place-init g c during = (end, during)

pub loop-place-preserved : goal.loop-place-preserved
loop-place-preserved g c during =
    let m = g.B.Blank.meaning c.args.blank.now in
    let law = g.B.Blank.lawful c.args.blank.now in
    let low : c.loop-place.place < length (m.places c.args.n) = omega (arith, c.places-place-end.ensures) in
    let so = c.loop-place.invariant during in
    let one = c.try_place.ensures so.1.kept.marks so.1.within in
    (cuts_more (m.places c.args.n) low so.0 one, during_more (m.places c.args.n) law low so.1 one)

pub returns : goal.returns
returns g c during = cuts_all ((g.B.Blank.meaning c.args.blank.now).places c.args.n) (omega (arith, c.places-place-end.ensures)) (c.loop-place.invariant during).0
