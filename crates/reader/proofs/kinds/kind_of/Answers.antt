-- The table is, entry for entry, the list of the kinds of the bytes from 0 on: the check computes both.
use Rattle.std.proofs.Common.{zero-add, ◌∙◌, rules}
use Rattle.std.proofs.lemmas.List.FromFn.{get_or-map-range_with_len}
use Rattle.text.specs.declared.Kind.TheVariants.{Single}
use Rattle.text.specs.Marks.{kind}
use Rattle.reader.proofs.kinds.kind_of.Goals as goal

pub returns : goal.returns
returns c = get_or-map-range_with_len kind 0 256 c.from.result c.args.b Single (search rules) (zero-add c.from.result ∙ c.from.ensures)
