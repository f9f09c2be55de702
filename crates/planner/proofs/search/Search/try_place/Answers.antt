use Rattle.std.proofs.Common.{◌<◌, length, vec_items, sym, ap, ◌∙◌, arith}
use Rattle.course.specs.Blanks.{Leads}
use Rattle.planner.specs.Searches.{search_state, marks_of, standing_of}
use Rattle.planner.proofs.Marked.{marked_set}
use Rattle.planner.proofs.Tries.{marks_as, try_empty, try_dear, try_keeps, try_opens, try_arrives}
use Rattle.planner.proofs.search.Search.try_place.Goals as goal

pub returns-in_default : goal.returns-in_default
returns-in_default g c marks within = try_empty c.in_default.ensures

pub returns-then-sum-from : goal.returns-then-sum-from
returns-then-sum-from g c marks within = try_dear c.in-Some.ensures (omega (arith, c.limit.ensures, c.estimate.ensures))

pub arrive-requires : goal.arrive-requires
arrive-requires g c = (g.B.Blank.lawful c.args.blank.now).cost_most (record { place = c.args.place; holds = sym c.in-Some.ensures })

pub returns-then-v-goal : goal.returns-then-v-goal
returns-then-v-goal g c marks within = try_arrives (g.B.Blank.lawful c.args.blank.now) c.in-Some.ensures (omega (arith, c.limit.ensures, c.estimate.ensures)) (c.if-v-goal.true ∙ c.goal.ensures) marks within c.arrive.ensures

pub returns-then-is_news : goal.returns-then-is_news
returns-then-is_news g c marks within =
    let m = g.B.Blank.meaning c.args.blank.now in
    let law = g.B.Blank.lawful c.args.blank.now in
    let old = vec_items c.args.self.now.bench.marks in
    let leads : Leads m c.args.n c.in-Some.v c.in-Some.c = record { place = c.args.place; holds = sym c.in-Some.ensures } in
    let inside : c.in-Some.v < length old = omega (arith, law.leads_in leads, law.states_most, c.args.self.now.bench.marks.ok.0, c.args.self.now.bench.marks_full) in
    try_opens c.in-Some.ensures (omega (arith, c.limit.ensures, c.estimate.ensures)) (λ home. c.if-v-goal.false (home ∙ sym c.goal.ensures)) (c.is_news.ensures.yes c.if-is_news.true)
    (marks_as (search_state c.args.self.now) c.in-Some.v _ (ap marks_of c.set_mark.ensures.marks ∙ marked_set old c.in-Some.v _ inside) (ap (λ p. standing_of c.args.self.now.standing (vec_items p)) c.set_mark.ensures.path))

pub returns-else-is_news : goal.returns-else-is_news
returns-else-is_news g c marks within = try_keeps c.in-Some.ensures (omega (arith, c.limit.ensures, c.estimate.ensures)) (λ home. c.if-v-goal.false (home ∙ sym c.goal.ensures)) (c.is_news.ensures.no c.if-is_news.false)
