-- The worked blank P and a life of it, with the answers that the rules give. docs/SEARCH.md draws it and goes through its moves.
use Rattle.std.specs.Prelude.{ℕ, List, [], ◌∷◌, Some, Option, slice_index, slice_index_or}
use Rattle.course.specs.Blanks.{Meaning, Lawful}
use Rattle.course.specs.Machine.{State, Order, LawfulRanks}
use Rattle.course.specs.Calls.{done, met, spent, Call, work, ratio, show, route, Answer, worked, set, shown, told, refused, Life}

-- The places of each state of P: one cut in each.
abbrev pub places_of_P : List (List (Option (ℕ × ℕ)))
places_of_P = (Some (1, 30) ∷ Some (2, 50) ∷ []) ∷ (Some (3, 60) ∷ []) ∷ (Some (3, 20) ∷ []) ∷ [] ∷ []

-- The estimates.
abbrev pub estimates_of_P : List ℕ
estimates_of_P = 40 ∷ 10 ∷ 20 ∷ 0 ∷ []

-- P: four states, from 0 to 3.
abbrev pub P : Meaning
P = record { states = 4; start = 0; goal = 3; places = λ u. slice_index_or places_of_P u []; estimate = λ u. slice_index estimates_of_P u }

-- Eight calls with their answers, the newest first.
abbrev pub calls_of_P : List (Call × Answer)
calls_of_P =
    (work 70000 4 4, refused 18)
    ∷ (route 4, told (0 ∷ 2 ∷ 3 ∷ []) 70 70)
    ∷ (work 5 4 4, worked done 1)
    ∷ (ratio 1 1, set)
    ∷ (show, shown (Some 90) 70 2 1023000 3 2)
    ∷ (work 2 4 4, worked met 1)
    ∷ (work 1 4 4, worked spent 1)
    ∷ (ratio 3 2, set)
    ∷ []

-- P is lawful, and with every wish there is a life of these calls with these answers, and so, since a call has only one answer, with no
-- others. (In each of its moves the focal set has one state, so that the wish has no choice.)
pub record WorkedOut : Type 0 where
  pub lawful : Lawful P
  pub life : (ord : Order) → LawfulRanks ord → (s : State) × Life P ord calls_of_P s
