-- How a fault prints.
use Rattle.std.specs.Prelude.{ℕ, List, ◌∷◌, ◌++◌, codes, decimal}
use Rattle.course.specs.Refusals.{number_of}
use Rattle.text.specs.declared.Fault.{Fault}
use Rattle.text.specs.Layers.{layer_number}

-- A space and a number.
abbrev pub spaced : ℕ → List ℕ
spaced n = 32 ∷ decimal n

-- `fault`, then layer, cause and place.
abbrev pub fault_words : ℕ → ℕ → ℕ → List ℕ
fault_words layer cause place = codes "fault" ++ (spaced layer ++ (spaced cause ++ spaced place))

abbrev pub fault_text : Fault → List ℕ
fault_text f = fault_words (layer_number f.layer) (number_of f.cause) f.place
