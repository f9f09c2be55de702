-- The machine, computed: what a move of a given state comes to, and whether the rules choose this state whatever the wish.
use Rattle.std.proofs.Common.{ℕ, zero, suc, ◌*◌, min, max, Bool, true, false, cond, not, ◌&&◌, ◌||◌, eqb, ltb, leb, List, [], ◌∷◌, ◌++◌, Some, None, Option}
use Rattle.course.specs.Blanks.{join, Meaning}
use Rattle.course.specs.declared.machine.Mark.{Mark}
use Rattle.course.specs.declared.machine.Mark.TheVariants.{Unseen as unseen, Open as opened, Closed as closed}
use Rattle.course.specs.Machine.{Standing, State, limit, marked, stands, raised_to, counted, sum}

-- The sum of a state u so marked, if it is live under a limit.
abbrev pub live_sum : Meaning → ℕ → ℕ → Mark → Option ℕ
live_sum m top u unseen = None
live_sum m top u (opened r) = cond (ltb (sum m u r.g) top) (Some (sum m u r.g)) None
live_sum m top u (closed r) = None

-- The smaller of two sums, of which either may be missing.
abbrev pub smaller : Option ℕ → Option ℕ → Option ℕ
smaller None y = y
smaller (Some a) None = Some a
smaller (Some a) (Some b) = Some (min a b)

-- The least sum of the live states below k.
abbrev pub least : Meaning → State → ℕ → Option ℕ
least m s zero = None
least m s (suc k) = smaller (live_sum m (limit s) k (s.mark k)) (least m s k)

-- The floor raised to a least sum, or to the limit where there is none.
abbrev pub raise_to : State → Option ℕ → State
raise_to s None = raised_to s (max s.floor (limit s))
raise_to s (Some f) = raised_to s (max s.floor (min (limit s) f))

abbrev pub raise : Meaning → State → State
raise m s = raise_to s (least m s m.states)

-- The state that a state so marked was reached from.
abbrev pub came_from : Mark → Option ℕ
came_from unseen = None
came_from (opened r) = r.from
came_from (closed r) = r.from

-- A state at the end of the chain of the one before it.
abbrev pub at_end : (ℕ → List ℕ) → ℕ → Option ℕ → List ℕ
at_end chain u None = u ∷ []
at_end chain u (Some v) = chain v ++ u ∷ []

-- The chain of a state, at most k states of it.
abbrev pub chain_of : (ℕ → Mark) → ℕ → ℕ → List ℕ
chain_of mark zero u = []
chain_of mark (suc k) u = at_end (chain_of mark k) u (came_from (mark u))

-- The cost of the cut to v among these places.
abbrev pub cost_to : ℕ → List (Option (ℕ × ℕ)) → ℕ
cost_to v [] = 0
cost_to v (None ∷ xs) = cost_to v xs
cost_to v (Some x ∷ xs) = cond (eqb x.0 v) x.1 (cost_to v xs)

-- The cost of the walk by these states.
abbrev pub cost_along : Meaning → List ℕ → ℕ
cost_along m [] = 0
cost_along m (u ∷ []) = 0
cost_along m (u ∷ v ∷ rest) = join (cost_to v (m.places u)) (cost_along m (v ∷ rest))

-- Whether to reach a state so marked at cost t is news.
abbrev pub newer : Mark → ℕ → Bool
newer unseen t = true
newer (opened r) t = ltb t r.g
newer (closed r) t = ltb t r.g

-- What one place of n, which was reached at g, does.
abbrev pub try : Meaning → ℕ → ℕ → Option (ℕ × ℕ) → State → State
try m n g None s = s
try m n g (Some x) s =
    let path = chain_of s.mark m.states n in
    cond (ltb (sum m x.0 (join g x.1)) (limit s))
    (cond (eqb x.0 m.goal) (stands s (path ++ x.0 ∷ []) (join (cost_along m path) x.1))
    (cond (newer (s.mark x.0) (join g x.1)) (marked s x.0 (opened (record { g = join g x.1; from = Some n }))) s))
    s

-- What places of n do, one after the other.
abbrev pub try_all : Meaning → ℕ → ℕ → List (Option (ℕ × ℕ)) → State → State
try_all m n g [] s = s
try_all m n g (x ∷ xs) s = try_all m n g xs (try m n g x s)

-- The state after a move of n, so marked.
abbrev pub move_at : Meaning → ℕ → State → Mark → State
move_at m n s unseen = s
move_at m n s (opened r) = raise m (try_all m n r.g (m.places n) (counted (marked s n (closed r))))
move_at m n s (closed r) = s

-- And after moves of these states, one after the other.
abbrev pub after : Meaning → List ℕ → State → State
after m [] s = s
after m (n ∷ ns) s = after m ns (move_at m n s (s.mark n))

-- Whether a sum is missing, or is more than f and too far from f for the focal set.
abbrev pub apart : State → ℕ → Option ℕ → Bool
apart s f None = true
apart s f (Some e) = ltb f e && not (leb (e * s.q) (s.p * f))

-- Whether the sums of all states below k but n are so.
abbrev pub alone : Meaning → State → ℕ → ℕ → ℕ → Bool
alone m s n f zero = true
alone m s n f (suc k) = (eqb k n || apart s f (live_sum m (limit s) k (s.mark k))) && alone m s n f k

-- Whether the focal set is n, so marked, and no other.
abbrev pub chosen : Meaning → ℕ → State → Mark → Bool
chosen m n s unseen = false
chosen m n s (opened r) =
    ltb (sum m n r.g) (limit s) && (leb (sum m n r.g * s.q) (s.p * sum m n r.g) && alone m s n (sum m n r.g) m.states)
chosen m n s (closed r) = false

-- Whether the search is finished, and whether its ratio is met.
abbrev pub finished : State → Bool
finished s = leb (limit s) s.floor

abbrev pub met : State → Option Standing → Bool
met s None = false
met s (Some r) = leb r.cost s.ceiling && leb (r.cost * s.q) (s.p * s.floor)

-- Whether a work makes the moves of these states, of which each is chosen in its turn, and is then done.
abbrev pub makes : Meaning → List ℕ → State → Bool
makes m [] s = finished s
makes m (n ∷ ns) s = (not (finished s) && not (met s s.standing)) && (chosen m n s (s.mark n) && makes m ns (move_at m n s (s.mark n)))
