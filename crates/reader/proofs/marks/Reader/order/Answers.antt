use Rattle.std.proofs.Common.{◌≡◌, Some, rules}
use Rattle.text.specs.Reading.{verb_of}
use Rattle.reader.specs.Meaning.{meant}
use Rattle.reader.specs.Orders.{spoken}
use Rattle.reader.proofs.OrderLines.{order_taken}
use Rattle.reader.proofs.marks.Reader.order.Goals as goal

pub returns : goal.returns
returns c =
    let m = c.in_ok-mark.ensures in
    let verb = c.in_ok-verb.verb in
    let named : verb_of (meant c.in_ok-mark.mark.token) ≡ Some (spoken verb) = search rules in
    order_taken (spoken verb) c.args.self.now c.order_numbers.new.self c.in_ok-mark.mark.end
    (meant c.in_ok-mark.mark.token) c.order_numbers.result m.is m.ends named c.order_numbers.ensures.reads
    c.order_numbers.ensures.named
