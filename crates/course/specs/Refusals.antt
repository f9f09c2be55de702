-- The number of each refusal. Every promise speaks of numbers through this definition.
use Rattle.std.specs.Prelude.{ℕ}
use Rattle.course.specs.declared.refusal.Refusal.{Refusal}
use Rattle.course.specs.declared.refusal.Refusal.TheVariants.{ByteOutside, NumberBadlyWritten, MarkUnwanted, TextTooLong, WrongShape, BadEnds, BadTarget, BadCost, BadEstimate, SteepEstimate, KnotBarred, BadStep, BadRatio, RowTooShort, BudgetTooLarge, NoRoute, CeilingRaised, KnotMarked, KnotsFull, QueueFull, QueueEmpty}

abbrev pub number_of : Refusal → ℕ
number_of ByteOutside = 1
number_of NumberBadlyWritten = 2
number_of MarkUnwanted = 3
number_of TextTooLong = 4
number_of WrongShape = 5
number_of BadEnds = 6
number_of BadTarget = 7
number_of BadCost = 8
number_of BadEstimate = 9
number_of SteepEstimate = 10
number_of KnotBarred = 11
number_of BadStep = 12
number_of BadRatio = 13
number_of RowTooShort = 15
number_of BudgetTooLarge = 18
number_of NoRoute = 31
number_of CeilingRaised = 36
number_of KnotMarked = 37
number_of KnotsFull = 38
number_of QueueFull = 39
number_of QueueEmpty = 40
