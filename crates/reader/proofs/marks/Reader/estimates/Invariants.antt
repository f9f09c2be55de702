use Rattle.std.proofs.Common.{◌-◌, vec_items}
use Rattle.text.specs.Document.{spaced_numbers}
use Rattle.reader.proofs.Estimates.{Left}
use Rattle.reader.proofs.marks.Reader.estimates.Given as goal

abbrev pub invariant-loop-i : goal.invariant-loop-i
invariant-loop-i l = Left (spaced_numbers l.states) (spaced_numbers (l.states - l._i)) (vec_items l.estimates) l.initial.self l.self
