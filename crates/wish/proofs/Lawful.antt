-- The laws of ranks carry over to the order of a wish.
use Rattle.std.proofs.Common.{◌≡◌, ℕ, Bool, sym, ◌∙◌}
use Rattle.course.specs.declared.machine.Numbers.{Numbers}
use Rattle.course.specs.Machine.{LawfulRanks}
use Rattle.rank.specs.Orders.{LawfulOrder}
use Rattle.wish.specs.Wished.{order_of}

-- Where the ranks keep their laws, and the rank of any numbers carries their state, so does the order.
pub order_lawful : {R : Type 0} {state : R → ℕ} {precedes : R → R → Bool} (ranked : Numbers → R) → LawfulOrder state precedes → ((n : Numbers) → state (ranked n) ≡ n.state) → LawfulRanks (order_of ranked precedes)
order_lawful ranked lawful carries = record {
  total = λ a b. lawful.total (ranked a) (ranked b);
  onward = λ a b d. lawful.onward (ranked a) (ranked b) (ranked d);
  same = λ a b h k. sym (carries a) ∙ lawful.same (ranked a) (ranked b) h k ∙ carries b;
}
