use Rattle.std.proofs.Common.{◌≡◌, ℕ, ◌+◌, ◌-◌, ◌<◌, List, length, take, vec_items, sym, refl, ap, ◌∙◌, subst, arith, rules}
use Rattle.planner.specs.Searches.{marks_of, origin_of}
use Rattle.planner.proofs.Traces.{Writing, writing_first, writing_more, writing_last, writing_none}
use Rattle.planner.proofs.bench.Bench.write_chain.Goals as goal

pub loop-i-init : goal.loop-i-init
loop-i-init c = (refl, omega arith, λ path chain e few. writing_first (marks_of (vec_items c.args.self.now.marks)) chain e)

pub loop-i-preserved : goal.loop-i-preserved
loop-i-preserved c =
    let same = c.set_step.ensures.marks ∙ c.loop-i.invariant.0 in
    let mark = marks_of (vec_items c.args.self.now.marks) in
    let row = vec_items c.loop-i.self.path in
    let j : ℕ = c.loop-i.i - 1 in
    let some = ap (λ x. origin_of (marks_of (vec_items x) c.loop-i.at)) (sym same) ∙ sym c.origin.ensures ∙ c.in-Some.is in
    let back : c.loop-i.i ≡ j + 1 = omega arith in
    let low : j < c.args.len = omega (arith, c.loop-i.invariant.1) in
    let long : length row ≡ 1024 = omega (arith, c.loop-i.self.path.ok.0, c.loop-i.self.path_full) in (
      same,
      omega (arith, c.loop-i.invariant.1),
      λ path chain e few.
          subst (λ (xs : List ℕ). Writing mark c.in-Some.u j c.args.len xs path) (sym c.set_step.ensures.path)
          (writing_more mark some back low (omega arith) (c.loop-i.invariant.2 path chain e few)),
    )

pub returns-in-None : goal.returns-in-None
returns-in-None c =
    let same = c.set_step.ensures.marks ∙ c.loop-i.invariant.0 in
    let mark = marks_of (vec_items c.args.self.now.marks) in
    let row = vec_items c.loop-i.self.path in
    let j : ℕ = c.loop-i.i - 1 in
    let none = ap (λ x. origin_of (marks_of (vec_items x) c.loop-i.at)) (sym same) ∙ sym c.origin.ensures ∙ c.in-None.is in
    let back : c.loop-i.i ≡ j + 1 = omega arith in
    let low : j < c.args.len = omega (arith, c.loop-i.invariant.1) in
    let long : length row ≡ 1024 = omega (arith, c.loop-i.self.path.ok.0, c.loop-i.self.path_full) in
    record {
      path = λ path chain e few. ap (take c.args.len) c.set_step.ensures.path ∙ writing_last mark none back low (omega arith) (c.loop-i.invariant.2 path chain e few);
      marks = same;
    }

pub returns : goal.returns
returns c =
    let mark = marks_of (vec_items c.args.self.now.marks) in
    record {
      path = λ path chain e few.
          let zero : c.loop-i.i ≡ 0 = omega arith in
          absurd (writing_none mark (subst (λ (k : ℕ). Writing mark c.loop-i.at k c.args.len (vec_items c.loop-i.self.path) path) zero (c.loop-i.invariant.2 path chain e few)));
      marks = search rules;
    }
