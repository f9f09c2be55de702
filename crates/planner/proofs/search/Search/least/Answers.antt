use Rattle.std.proofs.Common.{◌≡◌, ℕ, ◌+◌, Option, None, min, sym, ◌∙◌, subst, arith, rules}
use Rattle.std.specs.List.{range_with_len, filter_map, reduce}
use Rattle.std.proofs.lemmas.Iterator.{YieldsList-from_range}
use Rattle.std.proofs.lemmas.Iterator.Consumers.{YieldsList-from_filter_map, min_from_yields_List}
use Rattle.std.proofs.lemmas.Iterator.Adapters.{option_map_id}
use borrow.Author.Tests.{tests}
use Rattle.planner.specs.Searches.{search_state}
use Rattle.planner.proofs.Scans.{Scanned, live_sum, live_sum_is, scan_all, scan_ends}
use Rattle.planner.proofs.search.Search.least.Goals as goal

pub returns : goal.returns
returns g c inside =
    let m = g.B.Blank.meaning c.args.blank.now in
    let s = search_state c.args.self.now in
    let n : ℕ = c.states.result in
    let least = min_from_yields_List c.filter_map.result c.min.result c.min.ensures.ran (YieldsList-from_filter_map _ (live_sum m s) (YieldsList-from_range 0 n n (cc) (omega arith)) c.filter_map.ensures.closure (λ x r q k. (search (rules, tests), live_sum_is m s x r (search (rules, tests))))) in
    let is : reduce min (filter_map (live_sum m s) (range_with_len 0 n)) ≡ c.min.result = sym least ∙ option_map_id c.min.result in
    scan_ends m s c.min.result (omega (arith, c.states.ensures)) inside (subst (λ (o : Option ℕ). Scanned m s (0 + n) o) is (scan_all m s n 0 None (λ u g low. absurd (omega arith))))
