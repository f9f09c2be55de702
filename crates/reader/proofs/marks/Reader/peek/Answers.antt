use Rattle.std.proofs.Common.{◌+◌, ◌-◌, ◌≤◌, length, refl, ap, ◌∙◌, arith, rules}
use Rattle.std.proofs.lemmas.List.{length-drop}
use Rattle.text.specs.Marks.{next, width}
use Rattle.reader.specs.Meaning.{Front}
use Rattle.reader.proofs.marks.Reader.peek.Goals as goal

pub overflow_add-result : goal.overflow_add-result
overflow_add-result c =
    let r = c.args.self.now in
    let front : Front c.rest.result.now (c.in_ok-token.token, c.in_ok-token.width) = search rules in
    let few : c.in_ok-token.width ≤ length r.text.now - r.at = omega (arith, front.few, ap length c.rest.ensures, length-drop r.at r.text.now) in
    search rules

pub returns : goal.returns
returns c =
    let front : Front c.rest.result.now (c.in_ok-token.token, c.in_ok-token.width) = search rules in
    record {
      is = front.is ∙ ap next c.rest.ensures;
      here = refl;
      ends = ap (λ n. c.args.self.now.at + n) (front.wide ∙ ap width c.rest.ensures);
      written = front.written;
    }
