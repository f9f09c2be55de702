-- What is printed for orders.
use Rattle.std.proofs.Common.{◌≡◌, ℕ, List, [], ◌∷◌, ◌++◌, map, IfOk, Result, refl, ap, subst₂}
use Rattle.std.specs.List.{flat_map, zip}
use Rattle.std.proofs.lemmas.Result.{IfOk-weaker}
use Rattle.course.specs.Blanks.{Meaning}
use Rattle.course.specs.Machine as Machine
use Rattle.text.specs.declared.Order.{Order}
use Rattle.session.specs.declared.reply.Reply.{Reply}
use Rattle.session.specs.Replies.{call_of, answer_of}
use Rattle.session.specs.Lived.{Lived}
use Rattle.report.specs.Printed.{quick_order, order_line, order_lines, PrintsOrders}

-- From what performing them and listing them answered.
pub printed_orders :
    {m : Meaning} {ord : Machine.Order} (orders : List Order) (replies : List Reply) {X Y : Type 0} (bytes : X → List ℕ) (r : Result X Y) {c w n : ℕ} → c ≡ 1024 → w ≡ 1024 → n ≡ 1024 → ord ≡ quick_order
    → Lived m ord (map (call_of c w n) orders) (map answer_of replies) → IfOk r (λ s. bytes s ≡ order_lines orders (map answer_of replies))
    → IfOk r (λ s. PrintsOrders m orders (bytes s))
printed_orders {m} {ord} orders replies bytes r {c} {w} {n} costs wishes row quick lived listed =
    let P : ℕ → ℕ → Type 0 = λ i j. Lived m ord (map (call_of i j n) orders) (map answer_of replies) in
    let Q : ℕ → Machine.Order → Type 0 = λ i o. Lived m o (map (call_of 1024 1024 i) orders) (map answer_of replies) in
    let so = subst₂ Q row quick (subst₂ P costs wishes lived) in
    IfOk-weaker r _ (λ s. PrintsOrders m orders (bytes s)) (λ s e. record { answers = map answer_of replies; lived = so; is = e }) listed

-- A line for each order with its reply is one for each order with its answer.
pub lines_by : (orders : List Order) (replies : List Reply) → flat_map (λ p. order_line p.0 (answer_of p.1)) (zip orders replies) ≡ order_lines orders (map answer_of replies)
lines_by [] replies = refl
lines_by (o ∷ orders) [] = refl
lines_by (o ∷ orders) (r ∷ replies) = ap (λ z. order_line o (answer_of r) ++ z) (lines_by orders replies)
