-- How what a work answered prints.
use Rattle.std.specs.Prelude.{ℕ, List, ◌∷◌, ◌++◌, codes, decimal}
use Rattle.course.specs.declared.machine.Word.{Word}
use Rattle.course.specs.declared.machine.Word.TheVariants.{Done, Met, Spent}

abbrev pub word_name : Word → List ℕ
word_name Done = codes "done"
word_name Met = codes "met"
word_name Spent = codes "spent"

-- The word, a space, and the moves.
abbrev pub worked_text : Word → ℕ → List ℕ
worked_text word moves = word_name word ++ (32 ∷ decimal moves)
