-- Two lasts that have come the same way tell the same.
use Rattle.std.proofs.Common.{◌≡◌, ℕ, List, length, take, Ok, Result, sym, ap, ◌∙◌, subst}
use Rattle.course.specs.declared.refusal.Refusal.{Refusal}
use Rattle.course.specs.Blanks.{Meaning, Lawful}
use Rattle.course.specs.Machine.{State, Order, LawfulRanks}
use Rattle.course.specs.Calls.{shown}
use Rattle.course.specs.Promises.{Agrees}
use Rattle.course.proofs.Agree.{lives_agree}
use Rattle.planner.specs.declared.last.show.Shown.{Shown}
use Rattle.planner.specs.declared.last.route.Told.{Told}
use Rattle.planner.specs.Calls.{ShowAnswered, RouteAnswered, AcceptedRoute}
use Rattle.planner.specs.Alike.{Agree}

-- Showings with one answer are one.
shown_one : (x y : Shown) → shown x.cost x.floor x.moves x.ceiling x.p x.q ≡ shown y.cost y.floor y.moves y.ceiling y.p y.q → x ≡ y
shown_one x y e =
    let cost : x.cost ≡ y.cost = cc in
    let floor : x.floor ≡ y.floor = cc in
    let moves : x.moves ≡ y.moves = cc in
    let top : x.ceiling ≡ y.ceiling = cc in
    let over : x.p ≡ y.p = cc in
    let under : x.q ≡ y.q = cc in
    λ i. record { cost = cost i; floor = floor i; moves = moves i; ceiling = top i; p = over i; q = under i }

module _ {m n : Meaning} {a b : Order} {s z : State} where
  -- Routes that were told are one.
  told_one : {row after other rest : List ℕ} (t u : Told) → Agrees m n a b s z → AcceptedRoute m a s row t after → AcceptedRoute n b z other u rest → (t ≡ u) × (take t.len after ≡ take u.len rest)
  told_one t u agrees x y =
      let same = agrees.tells_same x.does y.does in
      let len : t.len ≡ u.len = sym x.counted ∙ ap length same.0 ∙ y.counted in
      ((λ i. record { len = len i; cost = same.1 i; floor = same.2 i }), same.0)

  -- The same by the answers.
  told_by : (row after other rest : List ℕ) (p q : Result Told Refusal) → Agrees m n a b s z → RouteAnswered m a s row p after → RouteAnswered n b z other q rest → (t u : Told) → p ≡ Ok t → q ≡ Ok u → (t ≡ u) × (take t.len after ≡ take u.len rest)
  told_by row after other rest p q agrees x y t u e f =
      told_one t u agrees
      (subst (λ (r : Result Told Refusal). RouteAnswered m a s row r after) e x)
      (subst (λ (r : Result Told Refusal). RouteAnswered n b z other r rest) f y)

  pub agreed : (row after other rest : List ℕ) (x y : Shown) (t u : Result Told Refusal) → Lawful m → LawfulRanks a → ShowAnswered m a s x → ShowAnswered n b z y → RouteAnswered m a s row t after → RouteAnswered n b z other u rest
      → Agree m n a b s z (record { first = x; second = y; first_route = t; second_route = u }) after rest
  agreed row after other rest x y t u law ranks sx sy rt ru cs ds l k way =
      let agrees = lives_agree m n a b law way.meaning ranks way.wishes cs ds s z l k way.settings way.moves in
      record { shown = shown_one x y (agrees.shows_same sx.does sy.does); told = told_by row after other rest t u agrees rt ru }
