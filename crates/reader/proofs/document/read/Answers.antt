use Rattle.std.proofs.Common.{◌≡◌, Err, ap}
use Rattle.text.specs.Reading.{document}
use Rattle.text.proofs.Laws.{verdict_laws}
use Rattle.reader.specs.Readings.{told}
use Rattle.reader.specs.Documents.{DocumentRead}
use Rattle.reader.specs.Verdict.{Accepted, Refused}
use Rattle.reader.proofs.Steps.{passes_out, hands_up}
use Rattle.reader.proofs.Judged.{too_long, at_fault, bad_table, good_table}
use Rattle.reader.proofs.document.read.Goals as goal

pub returns-then-text-gt-MOST_BYTES : goal.returns-then-text-gt-MOST_BYTES
returns-then-text-gt-MOST_BYTES c =
    let text = c.args.text.now in
    record {
      verdict =
          passes_out (Accepted text) (Refused text) c.new.result (Err c.into.result) c.into.ensures
          (too_long text c.new.result c.if-text-gt-MOST_BYTES.true (ap told c.new.ensures));
      laws = verdict_laws;
    }

pub returns-in_err-document : goal.returns-in_err-document
returns-in_err-document c =
    let text = c.args.text.now in
    let answer =
    hands_up (Accepted text) (Refused text) (DocumentRead text) (λ f. document text ≡ told f) c.in_err-document.field-0.0 c.from_residual.result
    c.from_residual.ensures.1 c.in_err-document.ensures (λ f e. at_fault text f c.if-text-gt-MOST_BYTES.false e)
    in
    record { verdict = answer; laws = verdict_laws }

pub returns-in_err-check : goal.returns-in_err-check
returns-in_err-check c =
    let f = c.in_err-check.field-0.0 in
    let answer =
    passes_out (Accepted c.args.text.now) (Refused c.args.text.now) f c.from_residual-in_err-check.result c.from_residual-in_err-check.ensures.1
    (bad_table c.args.text.now c.in_ok-document.document f c.if-text-gt-MOST_BYTES.false c.in_ok-document.ensures
    c.in_err-check.ensures)
    in
    record { verdict = answer; laws = verdict_laws }

pub returns : goal.returns
returns c =
    record {
      verdict =
          good_table c.args.text.now c.in_ok-document.document c.if-text-gt-MOST_BYTES.false c.in_ok-document.ensures
          c.in_ok-check.ensures;
      laws = verdict_laws;
    }
