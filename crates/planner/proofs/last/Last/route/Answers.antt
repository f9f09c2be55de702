use Rattle.std.proofs.Common.{◌≡◌, ◌≤◌, ◌++◌, length, take, drop, vec_items, refl, ap, ◌∙◌, arith}
use Rattle.std.specs.Option.{ok_or}
use Rattle.std.proofs.lemmas.List.{length-take-le, take_at, drop_at}
use Rattle.std.proofs.lemmas.Result.{err_from_is_err_and}
use Rattle.course.specs.declared.refusal.Refusal.TheVariants.{NoRoute}
use Rattle.course.specs.Calls.{no_room, no_route}
use Rattle.planner.specs.Searches.{standing_of}
use Rattle.course.proofs.Answers.{does_route}
use Rattle.planner.proofs.Lived.{floor_lived}
use Rattle.planner.proofs.Tells.{tells_as}
use Rattle.planner.proofs.last.Last.route.Goals as goal

pub returns-in_err-found : goal.returns-in_err-found
returns-in_err-found g c =
    let path = vec_items c.args.self.now.search.bench.path in
    let none = c.in_err-found.ensures.ok_part in
    let p = err_from_is_err_and c.from_residual.result c.from_residual.ensures.1 in
    let e : c.in_err-found.field-0.0 ≡ NoRoute = cc (c.in_err-found.ensures.value, ap (λ o. ok_or o NoRoute) none) in
    rw (p.1, p.2, e) (record { does = no_route (ap (λ o. standing_of o path) none); same = refl })

pub returns-then-row-path : goal.returns-then-row-path
returns-then-row-path g c =
    let path = vec_items c.args.self.now.search.bench.path in
    let fits : c.in_ok-found.found.len ≤ length path = omega (arith, c.args.self.now.search.bench.path.ok.0, c.args.self.now.search.bench.path_full, c.in_ok-found.found.short) in
    record { does = no_room (ap (λ o. standing_of o path) c.in_ok-found.ensures.ok_part) (omega (arith, ap (λ xs. length (take c.in_ok-found.found.len xs)) c.path.ensures)); same = refl }

pub returns : goal.returns
returns g c =
    let path = vec_items c.args.self.now.search.bench.path in
    let row = c.args.row.now in
    let len = c.in_ok-found.found.len in
    let fits : len ≤ length path = omega (arith, c.args.self.now.search.bench.path.ok.0, c.args.self.now.search.bench.path_full, c.in_ok-found.found.short) in
    let long : length (take len path) ≡ len = length-take-le len path fits in
    let same : take len c.path.result.now ≡ take len path = ap (take len) c.path.ensures in
    let counted : length (take len c.path.result.now) ≡ len = ap length same ∙ long in
    let wrote : c.write_over.new.row ≡ take len c.path.result.now ++ drop (length (take len c.path.result.now)) row = c.write_over.ensures in
    let front : take len c.write_over.new.row ≡ take len path =
    ap (take len) wrote ∙ take_at (take len c.path.result.now) (drop (length (take len c.path.result.now)) row) len counted ∙ same
    in
    let does = tells_as (ap (λ o. standing_of o path) c.in_ok-found.ensures.ok_part) (omega (arith, counted, long)) front in
    record {
      does = does;
      counted = ap length front ∙ long;
      rest = ap (drop len) wrote ∙ drop_at (take len c.path.result.now) (drop (length (take len c.path.result.now)) row) len counted ∙ ap (λ k. drop k row) counted;
      floor_under = floor_lived (g.B.Blank.lawful c.args.self.now.blank) c.args.self.now.lived;
      truly = record { some = c.args.self.now.lived; every = λ cs life. does_route (g.B.Blank.lawful c.args.self.now.blank) life does };
    }
