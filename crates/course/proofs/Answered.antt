-- Every call has an answer and a state that it leaves, and only one of each.
use Rattle.std.proofs.Common.{◌≡◌, ℕ, suc, ◌≤◌, ◌⊎◌, [], length, Some, None, Option, refl, ap, subst, inl, inr, arith}
use native.Mathlib.Decide.{dec_le}
use Rattle.std.proofs.lemmas.Bool.{cases_lt}
use Rattle.course.specs.Blanks.{Meaning, Lawful}
use Rattle.course.specs.Machine.{State, Standing, with_ceiling, Order, LawfulRanks}
use Rattle.course.specs.Calls.{Word, Works, is_done, is_met, is_spent, goes_on, Allowed, Call, work, ratio, ceiling, show, route, Answer, Does, works, short_row, over_budget, agrees, no_ratio, lowers, too_high, shows, tells, no_room, no_route, Life, clamped}
use Rattle.course.specs.Promises.{CallsAnswered, ClampingBegins}
use Rattle.course.proofs.Outcomes.{one_raised, one_move}
use Rattle.course.proofs.Moves.{Kept}
use Rattle.course.proofs.Floor.{Held, fresh_kept}
use Rattle.course.proofs.Possible.{raised_some, works_some}
use Rattle.course.proofs.Lives.{life_held, life_allowed}

-- ONLY ONE

-- A work comes to one end.
pub one_works :
    {m : Meaning} {ord : Order} {b k l : ℕ} {w x : Word} {s y z : State} → Lawful m → LawfulRanks ord → Works m ord b s w k y → Works m ord b s x l z
    → (w ≡ x) × (k ≡ l) × (y ≡ z)
one_works law ranks (is_done f) (is_done h) = (refl, refl, refl)
one_works law ranks (is_done f) (is_met h n) = absurd (h f)
one_works law ranks (is_done f) (is_spent h n) = absurd (h f)
one_works law ranks (is_done f) (goes_on h n move rest) = absurd (h f)
one_works law ranks (is_met f n) (is_done h) = absurd (f h)
one_works law ranks (is_met f n) (is_met h o) = (refl, refl, refl)
one_works law ranks (is_met f n) (is_spent h o) = absurd (o n)
one_works law ranks (is_met f n) (goes_on h o move rest) = absurd (o n)
one_works law ranks (is_spent f n) (is_done h) = absurd (f h)
one_works law ranks (is_spent f n) (is_met h o) = absurd (n o)
one_works law ranks (is_spent f n) (is_spent h o) = (refl, refl, refl)
one_works law ranks (goes_on f n move rest) (is_done h) = absurd (f h)
one_works law ranks (goes_on f n move rest) (is_met h o) = absurd (n o)
one_works {m} {ord} law ranks (goes_on {b = b} f n move rest) (goes_on {k = l} {w = x} {z = z} h o move' rest') =
    let same = one_works law ranks rest (subst (λ (a : State). Works m ord b a x l z) (one_move law ranks move' move) rest') in
    (same.0, ap suc same.1, same.2)

-- A call has one answer, and leaves one state.
pub one_does :
    {m : Meaning} {ord : Order} {s y z : State} {c : Call} {a b : Answer} → Lawful m → LawfulRanks ord → Does m ord s c a y → Does m ord s c b z
    → (a ≡ b) × (y ≡ z)
one_does law ranks (works costs wishes few ws) (works costs' wishes' few' ws') =
    let same = one_works law ranks ws ws' in
    let word = same.0 in
    let count = same.1 in
    (cc, same.2)
one_does law ranks (works costs wishes few ws) (short_row (inl low)) = absurd (omega arith)
one_does law ranks (works costs wishes few ws) (short_row (inr low)) = absurd (omega arith)
one_does law ranks (works costs wishes few ws) (over_budget costs' wishes' many) = absurd (omega arith)
one_does law ranks (short_row (inl low)) (works costs wishes few ws) = absurd (omega arith)
one_does law ranks (short_row (inr low)) (works costs wishes few ws) = absurd (omega arith)
one_does law ranks (short_row low) (short_row low') = (refl, refl)
one_does law ranks (short_row (inl low)) (over_budget costs wishes many) = absurd (omega arith)
one_does law ranks (short_row (inr low)) (over_budget costs wishes many) = absurd (omega arith)
one_does law ranks (over_budget costs wishes many) (works costs' wishes' few ws) = absurd (omega arith)
one_does law ranks (over_budget costs wishes many) (short_row (inl low)) = absurd (omega arith)
one_does law ranks (over_budget costs wishes many) (short_row (inr low)) = absurd (omega arith)
one_does law ranks (over_budget costs wishes many) (over_budget costs' wishes' many') = (refl, refl)
one_does law ranks (agrees allowed) (agrees allowed') = (refl, refl)
one_does law ranks (agrees allowed) (no_ratio not) = absurd (not allowed)
one_does law ranks (no_ratio not) (agrees allowed) = absurd (not allowed)
one_does law ranks (no_ratio not) (no_ratio not') = (refl, refl)
one_does law ranks (lowers low raised) (lowers low' raised') = (refl, one_raised raised raised')
one_does law ranks (lowers low raised) (too_high high) = absurd (omega arith)
one_does law ranks (too_high high) (lowers low raised) = absurd (omega arith)
one_does law ranks (too_high high) (too_high high') = (refl, refl)
one_does law ranks shows shows = (refl, refl)
one_does law ranks (tells {r = r} e room) (tells {r = t} e' room') = let same : r ≡ t = cc in (cc, refl)
one_does law ranks (tells {r = r} e room) (no_room {r = t} e' none) =
    let same : r ≡ t = cc in
    absurd (omega (arith, ap (λ (x : Standing). length x.path) same))
one_does law ranks (tells e room) (no_route e') = let no_way : ◌≡◌ {A = ℕ} 0 1 = cc in absurd (omega arith)
one_does law ranks (no_room {r = r} e none) (tells {r = t} e' room) =
    let same : r ≡ t = cc in
    absurd (omega (arith, ap (λ (x : Standing). length x.path) same))
one_does law ranks (no_room e none) (no_room e' none') = (refl, refl)
one_does law ranks (no_room e none) (no_route e') = let no_way : ◌≡◌ {A = ℕ} 0 1 = cc in absurd (omega arith)
one_does law ranks (no_route e) (tells e' room) = let no_way : ◌≡◌ {A = ℕ} 0 1 = cc in absurd (omega arith)
one_does law ranks (no_route e) (no_room e' none) = let no_way : ◌≡◌ {A = ℕ} 0 1 = cc in absurd (omega arith)
one_does law ranks (no_route e) (no_route e') = (refl, refl)

-- AT LEAST ONE

-- What a call does.
record Deed (m : Meaning) (ord : Order) (s : State) (c : Call) : Type 0 where
  answer : Answer
  left : State
  does : Does m ord s c answer left

-- A ratio may be set or not.
allowed_decided : (p q : ℕ) → Allowed p q ⊎ (Allowed p q → ⊥)
allowed_decided p q = at (dec_le 1 q) (dec_le q p) (dec_le p 1000)
  where
    at : Dec (1 ≤ q) → Dec (q ≤ p) → Dec (p ≤ 1000) → Allowed p q ⊎ (Allowed p q → ⊥)
    at (no l) b c = inr (λ x. l x.low)
    at (yes l) (no o) c = inr (λ x. o x.order)
    at (yes l) (yes o) (no h) = inr (λ x. h x.high)
    at (yes l) (yes o) (yes h) = inl (record { low = l; order = o; high = h })

module _ {m : Meaning} {ord : Order} (law : Lawful m) (ranks : LawfulRanks ord) {s : State} (held : Held m s) where
  -- A work is accepted, or its rows are too short, or its budget is too large.
  work_some : Allowed s.p s.q → (b c w : ℕ) → Deed m ord s (work b c w)
  work_some allowed b c w = at (dec_le m.states c) (dec_le m.states w) (dec_le b 65535)
    where
      at : Dec (m.states ≤ c) → Dec (m.states ≤ w) → Dec (b ≤ 65535) → Deed m ord s (work b c w)
      at (no low) y z = record { answer = _; left = s; does = short_row (inl (omega arith)) }
      at (yes x) (no low) z = record { answer = _; left = s; does = short_row (inr (omega arith)) }
      at (yes x) (yes y) (no many) = record { answer = _; left = s; does = over_budget x y (omega arith) }
      at (yes x) (yes y) (yes few) =
          let o = works_some law ranks b held allowed in
          record { answer = _; left = o.left; does = works x y few o.works }

  -- A ratio is set or refused.
  ratio_some : (p q : ℕ) → Deed m ord s (ratio p q)
  ratio_some p q = elim (allowed_decided p q) [
    | inl allowed ↦ record { answer = _; left = _; does = agrees allowed }
    | inr not ↦ record { answer = _; left = s; does = no_ratio not }
  ]

  -- A ceiling is set or refused.
  ceiling_some : (c : ℕ) → Deed m ord s (ceiling c)
  ceiling_some c = elim (cases_lt s.ceiling c) [
    | inl high ↦ record { answer = _; left = s; does = too_high high }
    | inr low ↦
        let k = held.kept in
        let kept : Kept m (with_ceiling s c) = record { marks = k.marks; stands_route = k.stands_route; stands_short = k.stands_short; floor_under = k.floor_under } in
        let r = raised_some law kept in
        record { answer = _; left = r.0; does = lowers low r.1 }
  ]

  -- A standing route is told, or the row is too short for it, or none stands.
  route_some : (row : ℕ) → Deed m ord s (route row)
  route_some row = at s.standing refl
    where
      at : (o : Option Standing) → s.standing ≡ o → Deed m ord s (route row)
      at None e = record { answer = _; left = s; does = no_route e }
      at (Some r) e = elim (cases_lt row (length r.path)) [
        | inl none ↦ record { answer = _; left = s; does = no_room e none }
        | inr room ↦ record { answer = _; left = s; does = tells e room }
      ]

  -- So every call does something.
  does_some : Allowed s.p s.q → (c : Call) → Deed m ord s c
  does_some allowed (work b c w) = work_some allowed b c w
  does_some allowed (ratio p q) = ratio_some p q
  does_some allowed (ceiling c) = ceiling_some c
  does_some allowed show = record { answer = _; left = s; does = shows }
  does_some allowed (route row) = route_some row

-- THE FOURTH PROMISE

-- After every life every call is answered, and in one way.
pub calls_answered : CallsAnswered
calls_answered m ord law ranks cs s life c =
    let d = does_some law ranks (life_held law life) (life_allowed life) c in
    record { answer = d.answer; left = d.left; does = d.does; only = λ a z does. one_does law ranks does d.does }

-- Every clamping begins a life, and in one state.
pub clamping_begins : ClampingBegins
clamping_begins m ord law =
    let r = raised_some law (fresh_kept law) in
    record { state = r.0; life = clamped r.1; only = λ z life. one_begun life (clamped r.1) }
  where
    one_begun : {y z : State} → Life m ord [] y → Life m ord [] z → y ≡ z
    one_begun (clamped a) (clamped b) = one_raised a b
