-- What wishes say.
use Rattle.std.specs.Prelude.{ℕ, ◌-◌, min, Bool}
use Rattle.course.specs.declared.machine.Numbers.{Numbers}
use Rattle.course.specs.Machine.{Order}

-- The order of a wish, from the ranks that it gives and the order of these: whether the first of two sets of numbers ranks no later than the
-- second.
abbrev pub order_of : {R : Type 0} → (Numbers → R) → (R → R → Bool) → Order
order_of ranked precedes a b = precedes (ranked a) (ranked b)

-- An over: a − b, taken exactly and then cut off at 0 and at 4,294,967,295, the greatest number of 32 bits.
abbrev pub cut_off : ℕ → ℕ → ℕ
cut_off a b = min (a - b) 4294967295
