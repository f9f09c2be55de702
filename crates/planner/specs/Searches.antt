-- What a search holds, as a state of the machine.
use Rattle.std.specs.Prelude.{ℕ, List, take, Some, None, vec_items, Option, slice_index_or}
use Rattle.course.specs.declared.machine.Reach.{Reach}
use Rattle.course.specs.declared.machine.Mark.{Mark}
use Rattle.course.specs.declared.machine.Mark.TheVariants.{Unseen, Open, Closed}
use Rattle.course.specs.Machine.{Standing, State}
use Rattle.course.specs.declared.machine.Word.{Word}
use Rattle.course.specs.declared.machine.Word.TheVariants.{Done as done, Met as met, Spent as spent}
use Rattle.course.specs.Calls.{Finished, Met}
use Rattle.planner.specs.declared.search.Incumbent.{Incumbent}
use Rattle.planner.specs.declared.search.Search.{Search}

-- The mark of each state, as the bench has it.
abbrev pub marks_of : List Mark → ℕ → Mark
marks_of marks u = slice_index_or marks u Unseen

-- How a marked state was reached, where it is seen.
abbrev pub reach_of : Mark → Option Reach
reach_of Unseen = None
reach_of (Open r) = Some r
reach_of (Closed r) = Some r

-- The state that a marked state was reached from.
abbrev pub origin_of : Mark → Option ℕ
origin_of Unseen = None
origin_of (Open r) = r.from
origin_of (Closed r) = r.from

-- The standing route: its states are the first of the bench's path.
abbrev pub standing_of : Option Incumbent → List ℕ → Option Standing
standing_of None path = None
standing_of (Some f) path = Some (record { path = take f.len path; cost = f.cost })

-- The state of the machine that a search is in.
abbrev pub search_state : Search → State
search_state s =
    record {
      mark = marks_of (vec_items s.bench.marks);
      standing = standing_of s.standing (vec_items s.bench.path);
      ceiling = s.ceiling;
      p = s.ratio.p;
      q = s.ratio.q;
      floor = s.floor;
      moves = s.moves;
    }

-- A look at a state tells a work to stop by a word.
abbrev pub Stops : Word → State → Type 0
Stops done s = Finished s
Stops met s = (Finished s → ⊥) × Met s
Stops spent s = ⊥
