use Rattle.std.proofs.Common.{◌≡◌, ℕ, ◌+◌, List, [], ◌∷◌, ◌++◌, length, take, vec_items, sym, ap, ◌∙◌, subst, arith}
use Rattle.std.proofs.lemmas.List.{take_more_set}
use Rattle.course.specs.Blanks.{Walk}
use Rattle.planner.specs.Searches.{search_state, marks_of}
use Rattle.planner.proofs.Arrives.{stands_as}
use Rattle.planner.proofs.search.Search.arrive.Goals as goal

pub returns-then-len-ge1024 : goal.returns-then-len-ge1024
returns-then-len-ge1024 g c path d chain few walk = absurd (omega (arith, c.chain_length-len.ensures.is path chain (omega arith)))

pub returns : goal.returns
returns g c path d chain few walk =
    let m = g.B.Blank.meaning c.args.blank.now in
    let len = c.chain_length-len.result in
    let row = vec_items c.write_chain.new.self.path in
    let long : length row ≡ 1024 = omega (arith, c.write_chain.new.self.path.ok.0, c.write_chain.new.self.path_full) in
    let is : len ≡ length path = c.chain_length-len.ensures.is path chain (omega arith) in
    let whole : take len row ≡ path = c.write_chain.ensures.path path chain (sym is) (omega arith) in
    stands_as (search_state c.args.self.now)
    (ap (λ x. marks_of (vec_items x)) (c.set_step.ensures.marks ∙ c.write_chain.ensures.marks))
    (ap (take (len + 1)) c.set_step.ensures.path ∙ take_more_set row len c.args.v (omega arith) ∙ ap (λ l. l ++ c.args.v ∷ []) whole)
    (ap (λ x. x + c.args.c) (c.path_cost.ensures.is m.start c.args.n d (subst (λ (l : List ℕ). Walk m m.start c.args.n l d) (sym whole) walk)))
