-- What an idle bench holds.
use Rattle.std.specs.Prelude.{◌≡◌, ℕ, List, replicate}
use Rattle.course.specs.declared.machine.Mark.{Mark}
use Rattle.course.specs.declared.machine.Mark.TheVariants.{Unseen}

-- A bench that holds nothing of any last: all of its 1,024 states are unseen, and its path is blank.
pub record Idle (marks : List Mark) (path : List ℕ) : Type 0 where
  pub unseen : marks ≡ replicate 1024 Unseen
  pub blank : path ≡ replicate 1024 0
