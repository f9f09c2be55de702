use Rattle.std.proofs.Common.{◌≡◌, ℕ, ◌<◌, vec_items, sym, ◌∙◌, inl, inr, Some, None, Option, IfSome, IsSomeAnd, ◌+◌, ◌-◌, arith, rules}
use Rattle.std.specs.Option.{option_map}
use Rattle.std.proofs.lemmas.Bool.{cases_lt}
use Rattle.std.proofs.lemmas.Option.{none-some, IfSome_then}
use borrow.Author.Tests.{tests}
use Rattle.planner.specs.Searches.{marks_of, origin_of}
use Rattle.planner.proofs.Traces.{trace_length}
use Rattle.planner.proofs.bench.Bench.chain_length.Goals as goal

-- What a place that is read holds.
held_at : (o : Option ℕ) (y : ℕ) → option_map (λ x. x) o ≡ Some y → IsSomeAnd o (λ _. Unit {0})
held_at None y e = absurd (none-some y e)
held_at (Some x) y e = tt

-- What follows of what is there.
some_then : (o : Option ℕ) {P Q : ℕ → Type 0} → IsSomeAnd o P → ((x : ℕ) → P x → Q x) → IsSomeAnd o Q
some_then None given then = given
some_then (Some x) given then = then x given

pub returns-clause-is : goal.returns-clause-is
returns-clause-is c path chain long =
    let (p, p_from, p_whole, counted) = c.count.ensures.runs in
    let (low, rest) = c.take.ensures.runs p p.seen p_from in
    let (q, q_from, source) = rest in
    let (same, whole) = source in
    let (first, empty, kept) = c.successors.ensures.runs q q.seen q_from in
    let (step, end, folds) = kept (λ a r f' k. search rules) in
    let some : 0 < q.len = elim (cases_lt 0 q.len) [
      | inl more ↦ more
      | inr none ↦ absurd (none-some c.args.n (sym (empty (whole p_whole (omega arith)) (omega arith))))
    ] in
    let mark = marks_of (vec_items c.args.self.now.marks) in
    let steps : (k : ℕ) → 0 < k → IfSome (q.at k) (λ y. IsSomeAnd (q.at (k - 1)) (λ x. origin_of (mark x) ≡ Some y)) = λ k more. IfSome_then (q.at k) (step k more) (λ y given. some_then (q.at (k - 1)) given (λ x called. search (rules, tests))) in
    let ends : (k : ℕ) → q.len < 1024 → q.len ≡ k + 1 → IsSomeAnd (q.at k) (λ x. origin_of (mark x) ≡ None) = λ k less is. some_then (q.at k) (end k (whole p_whole (omega arith)) is) (λ x called. search (rules, tests)) in
    counted ∙ sym same.0 ∙ trace_length mark q.at first steps chain q.len (omega arith) some (λ k less. held_at (q.at k) _ (q.reads k 0 less)) ends long
