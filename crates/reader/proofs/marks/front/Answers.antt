use Rattle.std.proofs.Common.{sym}
use Rattle.reader.proofs.Numbers.{figures_front}
use Rattle.reader.proofs.marks.front.Goals as goal

pub returns-else-badly_written : goal.returns-else-badly_written
returns-else-badly_written c =
    let f = figures_front c.args.bytes.now c.run-digits.result.now c.in-Some.b.now c.in-Some.ensures.value (sym c.in-Digit.ensures) c.run-digits.ensures (sym c.if-badly_written.ensures) in
    record { is = f.is; wide = f.wide; few = f.few; written = f.written }
