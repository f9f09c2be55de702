use Rattle.std.proofs.Common.{◌==◌, ℕ, Option, sym, ◌∙◌, subst₂, arith, rules}
use Rattle.std.proofs.lemmas.Iterator.{YieldsList-from_range}
use Rattle.std.proofs.lemmas.Iterator.Consumers.{YieldsList-from_filter_map}
use Rattle.std.proofs.lemmas.Iterator.Adapters.{option_map_id}
use Rattle.std.proofs.lemmas.Iterator.Search.{find_from_yields_List}
use Rattle.blank.specs.Cuts.{cut_at}
use borrow.Author.Tests.{tests}
use Rattle.planner.proofs.Adds.{FoundCut, find_cut, found_costs}
use Rattle.planner.proofs.search.expand.cut_cost.Goals as goal

pub returns : goal.returns
returns g c =
    let m = g.B.Blank.meaning c.args.blank.now in
    let law = g.B.Blank.lawful c.args.blank.now in
    let n : ℕ = c.places.result in
    let found = find_from_yields_List (λ x. x.0 == c.args.v) _ _ c.find.result c.find.ensures.ran (YieldsList-from_filter_map _ (λ k. cut_at m c.args.u k) (YieldsList-from_range 0 n n (cc) (omega arith)) c.filter_map.ensures.closure (λ x r q k. search (rules, tests))) (λ x b q k. search (rules, tests)) in
    let cut = subst₂ (λ k (o : Option (ℕ × ℕ)). FoundCut c.args.v (λ k. cut_at m c.args.u k) k 0 o) c.places.ensures (sym found ∙ option_map_id c.find.result) (find_cut c.args.v (λ k. cut_at m c.args.u k) n 0) in
    let costs = found_costs c.find.result law cut (search rules) in
    record { low = costs.0; is = costs.1 }
