use Rattle.std.proofs.Common.{◌≡◌, Err, sym, ap, ◌∙◌}
use Rattle.text.specs.Reading.{body, document}
use Rattle.reader.specs.Readings.{rest, told}
use Rattle.reader.specs.Documents.{BodyRead, DocumentRead}
use Rattle.reader.proofs.Steps.{passes_out}
use Rattle.reader.proofs.Whole.{head_stop, miscounted, well_counted, document_read, outcome_map}
use Rattle.reader.proofs.document.whole.Goals as goal

pub returns-in_err-head : goal.returns-in_err-head
returns-in_err-head c =
    let e = c.in_err-head.field-0.0 in
    passes_out _ _ e c.from_residual.result c.from_residual.ensures.1
    (head_stop c.args.text.now c.new-reader.result c.first_line.new.self c.new-reader.ensures e c.in_err-head.ensures)

pub returns-then-not-allowed : goal.returns-then-not-allowed
returns-then-not-allowed c =
    passes_out (DocumentRead c.args.text.now) (λ f. document c.args.text.now ≡ told f) c.new.result (Err c.into.result) c.into.ensures
    (miscounted c.args.text.now c.new-reader.result c.first_line.new.self c.new-reader.ensures c.in_ok-head.head c.in_ok-head.ensures c.allowed.result
    c.allowed.ensures c.if-not-allowed.true
    ∙ ap told (sym c.new.ensures))

pub returns : goal.returns
returns c =
    let text = c.args.text.now in
    let head = c.in_ok-head.head in
    let mid = c.first_line.new.self in
    let goes_on =
    well_counted text c.new-reader.result mid c.new-reader.ensures head c.in_ok-head.ensures c.allowed.result c.allowed.ensures c.if-not-allowed.false
    in
    outcome_map (BodyRead head mid c.body.new.self) (DocumentRead text) (λ f. body head.states head.start head.goal mid.at (rest mid) ≡ told f)
    (λ f. document text ≡ told f)
    (λ d b. document_read text c.new-reader.result mid c.new-reader.ensures head c.in_ok-head.ensures c.body.new.self d goes_on b)
    (λ f e. goes_on ∙ e)
    c.body.result
    c.body.ensures
