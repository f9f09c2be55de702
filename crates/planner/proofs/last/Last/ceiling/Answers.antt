use Rattle.std.proofs.Common.{refl, arith, rules}
use Rattle.course.specs.Machine.{with_ceiling}
use Rattle.course.specs.Calls.{lowers, too_high}
use Rattle.course.proofs.Lives.{life_held}
use Rattle.planner.specs.Lasts.{state_of}
use Rattle.planner.proofs.Marked.{marks_inside}
use Rattle.planner.proofs.Lived.{led_on}
use Rattle.planner.proofs.last.Last.ceiling.Goals as goal

pub returns-then-c-self : goal.returns-then-c-self
returns-then-c-self g c = record { answer = too_high (omega arith); untouched = refl; blank = search rules; wish = search rules }

pub invariant_of-self-2 : goal.invariant_of-self-2
invariant_of-self-2 g c =
    let law = g.B.Blank.lawful c.args.self.now.blank in
    record { lived = led_on (record { some = c.args.self.now.lived; every = λ cs life. lowers (omega arith) (c.raise_floor.ensures (marks_inside (with_ceiling (state_of c.args.self.now) c.args.c) law (life_held law life).kept.marks)) }) }

pub returns : goal.returns
returns g c =
    let law = g.B.Blank.lawful c.args.self.now.blank in
    record {
      answer = record { allowed = omega arith; does = record { some = c.args.self.now.lived; every = λ cs life. lowers (omega arith) (c.raise_floor.ensures (marks_inside (with_ceiling (state_of c.args.self.now) c.args.c) law (life_held law life).kept.marks)) } };
      untouched = tt;
      blank = search rules;
      wish = search rules;
    }
