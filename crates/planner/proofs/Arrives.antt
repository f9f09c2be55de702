-- A state with another incumbent.
use Rattle.std.proofs.Common.{◌≡◌, ℕ, List, Some}
use Rattle.course.specs.declared.machine.Mark.{Mark}
use Rattle.course.specs.Machine.{State, stands}

pub stands_as : (s : State) {mark : ℕ → Mark} {path route : List ℕ} {cost d : ℕ} → mark ≡ s.mark → path ≡ route → cost ≡ d → ◌≡◌ {A = State} (record { mark = mark; standing = Some (record { path = path; cost = cost }); ceiling = s.ceiling; p = s.p; q = s.q; floor = s.floor; moves = s.moves }) (stands s route d)
stands_as s e f h i = record { mark = e i; standing = Some (record { path = f i; cost = h i }); ceiling = s.ceiling; p = s.p; q = s.q; floor = s.floor; moves = s.moves }
