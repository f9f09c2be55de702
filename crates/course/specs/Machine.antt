-- Anytime focal search as a machine: the state of a clamped last, and what one move does to it.
use Rattle.std.specs.Prelude.{◌≡◌, ℕ, ◌+◌, ◌*◌, ◌^◌, ◌<◌, ◌≤◌, min, max, Bool, true, cond, ◌⊎◌, List, [], ◌∷◌, ◌++◌, Some, None, Option, ◌==◌, ◌≢◌}
use Rattle.course.specs.Blanks.{join, Meaning, Walk}
pub use Rattle.course.specs.declared.machine.Reach.{Reach}
pub use Rattle.course.specs.declared.machine.Mark.{Mark}
pub use Rattle.course.specs.declared.machine.Mark.TheVariants.{Unseen as unseen, Open as opened, Closed as closed}
pub use Rattle.course.specs.declared.machine.Numbers.{Numbers}

-- THE STATE

-- The standing route (the incumbent): the route that was found last, by its states, and its cost.
pub record Standing : Type 0 where
  pub path : List ℕ
  pub cost : ℕ

-- A whole state of the machine: a mark for each state of the blank, the standing route if there is one, the ceiling (the most that a wanted
-- route costs), the agreed ratio p/q, the floor (the lower bound on every route) and the moves made since clamping.
pub record State : Type 0 where
  pub mark : ℕ → Mark
  pub standing : Option Standing
  pub ceiling : ℕ
  pub p : ℕ
  pub q : ℕ
  pub floor : ℕ
  pub moves : ℕ

-- The limit (the upper bound), from a ceiling and a standing route: only a route that costs less is still looked for, one within the ceiling
-- and cheaper than the standing one.
abbrev pub limit_of : ℕ → Option Standing → ℕ
limit_of ceiling None = ceiling + 1
limit_of ceiling (Some r) = min (ceiling + 1) r.cost

-- The limit of a state.
abbrev pub limit : State → ℕ
limit s = limit_of s.ceiling s.standing

-- THE CHANGES TO A STATE, each of one part

-- The mark of u becomes x.
abbrev pub marked : State → ℕ → Mark → State
marked s u x =
    record {
      mark = λ v. cond (v == u) x (s.mark v);
      standing = s.standing;
      ceiling = s.ceiling;
      p = s.p;
      q = s.q;
      floor = s.floor;
      moves = s.moves;
    }

-- Another route stands.
abbrev pub stands : State → List ℕ → ℕ → State
stands s path cost =
    record {
      mark = s.mark;
      standing = Some (record { path = path; cost = cost });
      ceiling = s.ceiling;
      p = s.p;
      q = s.q;
      floor = s.floor;
      moves = s.moves;
    }

-- The floor becomes another.
abbrev pub raised_to : State → ℕ → State
raised_to s floor =
    record { mark = s.mark; standing = s.standing; ceiling = s.ceiling; p = s.p; q = s.q; floor = floor; moves = s.moves }

-- One more move is counted.
abbrev pub counted : State → State
counted s =
    record { mark = s.mark; standing = s.standing; ceiling = s.ceiling; p = s.p; q = s.q; floor = s.floor; moves = s.moves + 1 }

-- The ratio becomes p/q.
abbrev pub with_ratio : State → ℕ → ℕ → State
with_ratio s p q =
    record { mark = s.mark; standing = s.standing; ceiling = s.ceiling; p = p; q = q; floor = s.floor; moves = s.moves }

-- The ceiling becomes c.
abbrev pub with_ceiling : State → ℕ → State
with_ceiling s c =
    record { mark = s.mark; standing = s.standing; ceiling = c; p = s.p; q = s.q; floor = s.floor; moves = s.moves }

-- THE CHOICE OF A STATE

-- The sum of a state u that is reached at g (A*'s f): that cost, joined with the estimate of what is left.
abbrev pub sum : Meaning → ℕ → ℕ → ℕ
sum m u g = join g (m.estimate u)

-- u is live at g: open at that cost, and its sum is below the limit. Other open states stay on the frontier, but are not looked at.
pub record Live (m : Meaning) (s : State) (u g : ℕ) : Type 0 where
  pub from : Option ℕ
  pub is_open : s.mark u ≡ opened (record { g = g; from = from })
  pub below : sum m u g < limit s

-- f is the least sum: the smallest sum of a live state.
pub record Least (m : Meaning) (s : State) (f : ℕ) : Type 0 where
  pub at : ℕ
  pub at_g : ℕ
  pub live : Live m s at at_g
  pub is : sum m at at_g ≡ f
  pub none_less : (u g : ℕ) → Live m s u g → f ≤ sum m u g

-- No state is live.
abbrev pub NoLive : Meaning → State → Type 0
NoLive m s = (u g : ℕ) → Live m s u g → ⊥

-- u is in the focal set at the least sum f: live, and its sum is at most p/q times f.
pub record Focal (m : Meaning) (s : State) (f u g : ℕ) : Type 0 where
  pub live : Live m s u g
  pub near : sum m u g * s.q ≤ s.p * f

-- The numbers by which a wish ranks the state u, open at g, where the least sum is f.
abbrev pub numbers : Meaning → State → ℕ → ℕ → ℕ → Numbers
numbers m s f u g = record { state = u; g = g; h = m.estimate u; limit = limit s; p = s.p; q = s.q; least = f }

-- A wish, by its order: whether the first of two sets of numbers ranks no later than the second.
abbrev pub Order : Type 0
Order = Numbers → Numbers → Bool

-- The laws of ranks: of two sets of numbers at least one ranks no later than the other, this carries over from two pairs to the third, and
-- two that each rank no later than the other are of the same state.
pub record LawfulRanks (ord : Order) : Type 0 where
  pub total : (a b : Numbers) → (ord a b ≡ true) ⊎ (ord b a ≡ true)
  pub onward : (a b c : Numbers) → ord a b ≡ true → ord b c ≡ true → ord a c ≡ true
  pub same : (a b : Numbers) → ord a b ≡ true → ord b a ≡ true → a.state ≡ b.state

-- A set of numbers that fits 32 bits.
pub record Fits32 (n : Numbers) : Type 0 where
  pub state : n.state < 2 ^ 32
  pub g : n.g < 2 ^ 32
  pub h : n.h < 2 ^ 32
  pub limit : n.limit < 2 ^ 32
  pub p : n.p < 2 ^ 32
  pub q : n.q < 2 ^ 32
  pub least : n.least < 2 ^ 32

-- Two wishes are equal: they say alike of any two sets of numbers that fit 32 bits.
abbrev pub EqualWishes : Order → Order → Type 0
EqualWishes a b = (x y : Numbers) → Fits32 x → Fits32 y → a x y ≡ b x y

-- n, open at g, is the state of the focal set whose rank is first.
pub record Chosen (m : Meaning) (ord : Order) (s : State) (f n g : ℕ) : Type 0 where
  pub focal : Focal m s f n g
  pub first : (u k : ℕ) → Focal m s f u k → ord (numbers m s f n g) (numbers m s f u k) ≡ true

-- THE CUTS OF THE CHOSEN STATE

-- u is seen (open or closed), and was reached by r.
abbrev pub Seen : (ℕ → Mark) → ℕ → Reach → Type 0
Seen mark u r = (mark u ≡ opened r) ⊎ (mark u ≡ closed r)

-- The chain of a state: itself, the state it was reached from, and so on back; listed from the first to the last.
pub data Chain (mark : ℕ → Mark) : ℕ → List ℕ → Type 0 where
  root : {u g : ℕ} → Seen mark u (record { g = g; from = None }) → Chain mark u (u ∷ [])
  link : {u v g : ℕ} {path : List ℕ} → Seen mark v (record { g = g; from = Some u }) → Chain mark u path → Chain mark v (path ++ v ∷ [])

-- To reach a state so marked at cost t is news: it is unseen, or t is less than what it was reached at.
abbrev pub News : Mark → ℕ → Type 0
News unseen t = Unit {0}
News (opened r) t = t < r.g
News (closed r) t = t < r.g

-- What one place of n, which was reached at g, does to the state.
pub data Tried (m : Meaning) (n g : ℕ) : Option (ℕ × ℕ) → State → State → Type 0 where
  -- the place holds no cut
  empty : {s : State} → Tried m n g None s s
  -- the cut leads to a sum that is not below the limit
  dear : {v c : ℕ} {s : State} → limit s ≤ sum m v (join g c) → Tried m n g (Some (v, c)) s s
  -- the cut leads to the goal: the chain of n and then the goal is the standing route, at what that walk costs. This may be less than g and
  -- c joined, where a state of the chain was reached more cheaply since n was reached from it.
  arrives :
      {v c d : ℕ} {path : List ℕ} {s : State} → sum m v (join g c) < limit s → v ≡ m.goal → Chain s.mark n path → Walk m m.start n path d
      → Tried m n g (Some (v, c)) s (stands s (path ++ v ∷ []) (join d c))
  -- the cut is news of another state, which is opened, a closed one again
  opens :
      {v c : ℕ} {s : State} → sum m v (join g c) < limit s → (v ≢ m.goal) → News (s.mark v) (join g c)
      → Tried m n g (Some (v, c)) s (marked s v (opened (record { g = join g c; from = Some n })))
  -- the cut is no news of another state
  keeps : {v c : ℕ} {s : State} → sum m v (join g c) < limit s → (v ≢ m.goal) → (News (s.mark v) (join g c) → ⊥) → Tried m n g (Some (v, c)) s s

-- What places of n do, one after the other.
pub data Cuts (m : Meaning) (n g : ℕ) : List (Option (ℕ × ℕ)) → State → State → Type 0 where
  end : {s : State} → Cuts m n g [] s s
  next : {x : Option (ℕ × ℕ)} {xs : List (Option (ℕ × ℕ))} {s y z : State} → Tried m n g x s y → Cuts m n g xs y z → Cuts m n g (x ∷ xs) s z

-- THE MOVE

-- The floor becomes the greater of itself and the smaller of limit and least sum, or of itself and limit where no state is live.
pub data Raised (m : Meaning) (s : State) : State → Type 0 where
  to_least : {f : ℕ} → Least m s f → Raised m s (raised_to s (max s.floor (min (limit s) f)))
  to_limit : NoLive m s → Raised m s (raised_to s (max s.floor (limit s)))

-- One move: the chosen state is closed and the move counted, then its places are tried in order, then the floor is raised.
pub record Move (m : Meaning) (ord : Order) (s z : State) : Type 0 where
  pub n : ℕ
  pub g : ℕ
  pub f : ℕ
  pub least : Least m s f
  pub chosen : Chosen m ord s f n g
  pub after : State
  pub cuts : Cuts m n g (m.places n) (counted (marked s n (closed (record { g = g; from = chosen.focal.live.from })))) after
  pub raised : Raised m after z

-- What clamping begins with, before it raises the floor: only the start is seen, open at 0; no route stands, the ceiling is 1,023,000, the
-- ratio 1/1, the floor 0, the moves 0.
abbrev pub fresh : Meaning → State
fresh m =
    record {
      mark = λ u. cond (u == m.start) (opened (record { g = 0; from = None })) unseen;
      standing = None;
      ceiling = 1023000;
      p = 1;
      q = 1;
      floor = 0;
      moves = 0;
    }
