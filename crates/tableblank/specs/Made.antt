-- What comes of making a table: the table of the rows, or their worst flaw.
use Rattle.std.specs.Prelude.{◌≡◌, Ok, Err, Result}
use Rattle.course.specs.Refusals.{number_of}
use Rattle.table.specs.declared.flaw.Flaw.{Flaw}
use Rattle.table.specs.Table.{Rows, Passes, Worst}

-- Of rows given and a table made, where `held` tells the rows that a table holds: those given pass the checks and are the ones held, or
-- this flaw is their worst.
abbrev pub Made : {T : Type 0} → Rows → (T → Rows) → Result T Flaw → Type 0
Made given held (Ok t) = Passes given × (held t ≡ given)
Made given held (Err f) = Worst given (number_of f.cause) f.place
