-- The number of each layer.
use Rattle.std.specs.Prelude.{ℕ}
use Rattle.text.specs.declared.Layer.{Layer}
use Rattle.text.specs.declared.Layer.TheVariants.{Marks, Forms, Table}

abbrev pub layer_number : Layer → ℕ
layer_number Marks = 1
layer_number Forms = 2
layer_number Table = 3
