use Rattle.std.proofs.Common.{take, ap, ◌∙◌, rules, tests}
use Rattle.std.proofs.lemmas.Iterator.{YieldsList-from_slice}
use Rattle.std.proofs.lemmas.Iterator.Consumers.{count_from_yields_List}
use Rattle.std.proofs.lemmas.Iterator.Search.{YieldsList-from_take_while}
use Rattle.std.proofs.lemmas.List.Folds.{length-prefix_len}
use Rattle.reader.specs.Meaning.{of_kind}
use Rattle.reader.proofs.OfKind.{kind_tested}
use Rattle.reader.proofs.marks.run.Goals as goal

pub returns : goal.returns
returns c =
    let p = of_kind c.args.kind in
    let xs = c.args.bytes.now in
    ap (λ n. take n xs)
    (count_from_yields_List c.take_while.result _ c.count-length.ensures.ran (YieldsList-from_take_while _ p (YieldsList-from_slice xs (cc)) c.take_while.ensures.closure c.take_while.ensures.done (λ x b q k. search (rules, tests, kind_tested)))
    ∙ length-prefix_len p xs)
