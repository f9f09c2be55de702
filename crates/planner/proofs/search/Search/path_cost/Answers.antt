use Rattle.std.proofs.Common.{◌≡◌, ℕ, ◌+◌, ◌-◌, ◌≤◌, List, length, get_or, take, vec_items, sym, ap, ◌∙◌, subst, subst₂, arith}
use Rattle.std.proofs.lemmas.List.{get_or-take, length-take-le, length-drop}
use Rattle.std.specs.Slice.Iter.{windows_rest, windows_size}
use Rattle.course.specs.Blanks.{Leads}
use Rattle.planner.proofs.Adds.{Adding, adding_first, adding_more, adding_all}
use Rattle.planner.proofs.search.Search.path_cost.Goals as goal

pub loop-pair-init : goal.loop-pair-init
loop-pair-init g c =
    let m = g.B.Blank.meaning c.args.blank.now in
    let path = vec_items c.args.self.now.bench.path in
    let from = c.into_iter-pair-iterator.ensures.into_iter_gives in
    let rest : windows_rest c.into_iter-pair-iterator.result ≡ take c.args.len path = ap windows_rest from ∙ c.windows-pair-items.ensures.rest ∙ ap (take c.args.len) c.path.ensures in
    let size : windows_size c.into_iter-pair-iterator.result ≡ 2 = ap windows_size from ∙ c.windows-pair-items.ensures.size in
    let fits : c.args.len ≤ length path = omega (arith, c.args.self.now.bench.path.ok.0, c.args.self.now.bench.path_full) in
    let long : length (windows_rest c.into_iter-pair-iterator.result) ≡ c.args.len = ap length rest ∙ length-take-le c.args.len path fits in
    (omega arith, tt, size, omega arith, λ s w e walk. subst (λ (xs : List ℕ). Adding m xs w 0 e) (sym rest) (adding_first (take c.args.len path) walk))

pub loop-pair-preserved : goal.loop-pair-preserved
loop-pair-preserved g c =
    let m = g.B.Blank.meaning c.args.blank.now in
    let (can, ends, size, low, adding) = c.loop-pair.invariant in
    let rest = windows_rest c.loop-pair.pair-iterator in
    let (kept, step) = c.in-Some.ensures.steps in
    let (some, pair, after, two) = step in
    let is : c.in-Some.pair.now ≡ take 2 rest = pair ∙ ap (λ k. take k rest) size in
    let at : get_or c.in-Some.pair.now 0 0 ≡ get_or rest 0 0 = ap (λ xs. get_or xs 0 0) is ∙ get_or-take 2 rest 0 0 (omega arith) in
    let next : get_or c.in-Some.pair.now 1 0 ≡ get_or rest 1 0 = ap (λ xs. get_or xs 1 0) is ∙ get_or-take 2 rest 1 0 (omega arith) in
    let more : 2 ≤ length rest = omega arith in
    let less : length (windows_rest c.next.new.self) ≡ length rest - 1 = ap length after ∙ length-drop 1 rest in (
      omega arith,
      tt,
      kept ∙ size,
      omega (arith, c.cut_cost-cost.ensures.low),
      λ s w e walk. subst (λ (xs : List ℕ). Adding m xs w (c.loop-pair.cost + c.cut_cost-cost.result) e) (sym after)
          (adding_more rest more (λ k leads. c.cut_cost-cost.ensures.is k (subst₂ (λ (x y : ℕ). Leads m x y k) (sym at) (sym next) leads)) (adding s w e walk)),
    )

pub returns-clause-is : goal.returns-clause-is
returns-clause-is g c s w e walk =
    let (can, ends, size, low, adding) = c.loop-pair.invariant in
    adding_all (windows_rest c.loop-pair.pair-iterator) (omega (arith, c.in-None.ensures.steps.1.0, size)) (adding s w e walk)
