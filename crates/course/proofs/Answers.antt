-- Every answer of a life means what it says.
use Rattle.std.proofs.Common.{◌≡◌, ℕ, ◌≤◌, List, [], ◌∷◌, ◌++◌, length, Some, None, Option, refl, subst, arith}
use Rattle.std.specs.Option.{option_map}
use Rattle.course.specs.Blanks.{Meaning, Route, Lawful}
use Rattle.course.specs.Machine.{State, Standing, Order}
use Rattle.course.specs.Calls.{Call, route, Answer, worked, shown, told, Does, shows, tells, Life, then}
use Rattle.course.specs.Promises.{TrueShowing, TrueRoute, TrueAnswer, AnswersTrue}
use Rattle.course.proofs.Lives.{life_moves, life_held, lives_sound}
use Rattle.course.proofs.Words.{words_meant}

-- A life comes apart at each of its calls.
pub record WithinLife (m : Meaning) (ord : Order) (c : Call) (a : Answer) (earlier : List (Call × Answer)) : Type 0 where
  pub before : State
  pub after : State
  pub life : Life m ord earlier before
  pub does : Does m ord before c a after

last_call : {m : Meaning} {ord : Order} {x : Call × Answer} {cs : List (Call × Answer)} {s : State} → Life m ord (x ∷ cs) s → WithinLife m ord x.0 x.1 cs
last_call (then {s = y} {z = z} life does) = record { before = y; after = z; life = life; does = does }

older : {m : Meaning} {ord : Order} {x : Call × Answer} {cs : List (Call × Answer)} {s : State} → Life m ord (x ∷ cs) s → (y : State) × Life m ord cs y
older (then {s = y} life does) = (y, life)

pub apart : {m : Meaning} {ord : Order} (later : List (Call × Answer)) {c : Call} {a : Answer} {earlier : List (Call × Answer)} {s : State} → Life m ord (later ++ (c, a) ∷ earlier) s → WithinLife m ord c a earlier
apart [] life = last_call life
apart (x ∷ later) life = apart later (older life).1

-- A cost that is shown is the standing route's.
shown_cost : (standing : Option Standing) (c : ℕ) → option_map (λ (r : Standing). r.cost) standing ≡ Some c → (r : Standing) × (standing ≡ Some r) × (r.cost ≡ c)
shown_cost None c e = let no_way : ◌≡◌ {A = ℕ} 0 1 = cc in absurd (omega arith)
shown_cost (Some r) c e = let same : r.cost ≡ c = cc in (r, refl, same)

-- A showing of a state that a life left.
pub showing_true : {m : Meaning} {ord : Order} {cs : List (Call × Answer)} {s : State} → Lawful m → Life m ord cs s → TrueShowing m cs (option_map (λ (r : Standing). r.cost) s.standing) s.floor s.moves
showing_true {m} {ord} {cs} {s} law life = record {
  floor_under = (life_held law life).kept.floor_under;
  costs_route = λ c e.
      let r = shown_cost s.standing c e in
      (r.0.path, subst (λ (k : ℕ). Route m r.0.path k) r.2 ((life_held law life).kept.stands_route r.0 r.1));
  moves_told = life_moves life;
}

-- A telling of it.
pub telling_true : {m : Meaning} {ord : Order} {cs : List (Call × Answer)} {s : State} {r : Standing} {row : ℕ} → Lawful m → Life m ord cs s → s.standing ≡ Some r → length r.path ≤ row → TrueRoute m row r.path r.cost s.floor
telling_true {r = r} law life stands room = record {
  is_route = (life_held law life).kept.stands_route r stands;
  floor_under = (life_held law life).kept.floor_under;
  fits = room;
}

-- The same by what the call did.
pub does_show : {m : Meaning} {ord : Order} {cs : List (Call × Answer)} {s z : State} {c : Call} {cost : Option ℕ} {floor moves l p q : ℕ} → Lawful m → Life m ord cs s → Does m ord s c (shown cost floor moves l p q) z → TrueShowing m cs cost floor moves
does_show law life shows = showing_true law life

pub does_route : {m : Meaning} {ord : Order} {cs : List (Call × Answer)} {s z : State} {row cost floor : ℕ} {states : List ℕ} → Lawful m → Life m ord cs s → Does m ord s (route row) (told states cost floor) z → TrueRoute m row states cost floor
does_route law life (tells stands room) = telling_true law life stands room

-- What a call of a life answers means what it says.
pub answer_true : {m : Meaning} {ord : Order} {cs : List (Call × Answer)} {s z : State} {c : Call} {a : Answer} → Lawful m → Life m ord cs s → Does m ord s c a z → TrueAnswer m cs c a z
answer_true {m} {ord} {cs} {s} {z} {c} {a} law life does = record {
  work_meant = λ b cost_row wish_row k w e f.
      words_meant m ord law cs s life b cost_row wish_row k w z
      (subst (λ (x : Call). Does m ord s x (worked w k) z) e (subst (λ (x : Answer). Does m ord s c x z) f does));
  show_true = λ cost floor moves l p q e. does_show law life (subst (λ (x : Answer). Does m ord s c x z) e does);
  route_true = λ row cost floor states e f.
      does_route law life (subst (λ (x : Call). Does m ord s x (told states cost floor) z) e (subst (λ (x : Answer). Does m ord s c x z) f does));
}

-- So it is wherever it stands.
pub answers_true : AnswersTrue
answers_true m ord law cs s life = record {
  each = λ later earlier c a e.
      let w = apart later (subst (λ (l : List (Call × Answer)). Life m ord l s) e life) in
      (w.after, then w.life w.does, answer_true law w.life w.does);
  few_moves = (lives_sound m ord law cs s life).few_moves;
}
