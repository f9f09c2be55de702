use Rattle.std.proofs.Common.{◌<◌, length, vec_items, sym, ap, ◌∙◌, arith}
use Rattle.course.specs.declared.machine.Mark.TheVariants.{Closed}
use Rattle.course.proofs.Floor.{live_in}
use Rattle.planner.specs.Searches.{search_state, marks_of, standing_of}
use Rattle.std.proofs.lemmas.Option.{MatchOption-at_some, MatchOption-at_none}
use Rattle.planner.proofs.Marked.{marked_set, marks_inside}
use Rattle.planner.proofs.OneMove.{shuts_as, least_focal, moves_from}
use Rattle.planner.proofs.search.Search.one_move.Goals as goal

pub returns-in_err-least : goal.returns-in_err-least
returns-in_err-least g c held found rank_room room count low =
    let live = held.some_live low in
    absurd (MatchOption-at_none _ _ c.in_err-least.was found live.0 live.1 live.2)

pub returns-in_err-n : goal.returns-in_err-n
returns-in_err-n g c held found rank_room room count low =
    let s = search_state c.args.self.now in
    let inside = marks_inside s (g.B.Blank.lawful c.args.blank.now) held.kept.marks in
    let least = MatchOption-at_some _ _ _ c.in_ok-least.was found in
    absurd (c.in_err-n.ensures inside room least.at least.at_g (least_focal c.args.self.now.ratio.allowed.order least))

pub returns-in_default : goal.returns-in_default
returns-in_default g c held found rank_room room count low =
    let s = search_state c.args.self.now in
    let inside = marks_inside s (g.B.Blank.lawful c.args.blank.now) held.kept.marks in
    let chosen = c.in_ok-n.ensures inside room in
    absurd (c.in_default.not-Open _ (c.mark.ensures ∙ chosen.1.focal.live.is_open))

pub returns : goal.returns
returns g c held found rank_room room count low =
    let law = g.B.Blank.lawful c.args.blank.now in
    let s = search_state c.args.self.now in
    let n = c.in_ok-n.n in
    let old = vec_items c.args.self.now.bench.marks in
    let inside = marks_inside s law held.kept.marks in
    let least = MatchOption-at_some _ _ _ c.in_ok-least.was found in
    let chosen = c.in_ok-n.ensures inside room in
    let is = sym c.mark.ensures ∙ c.in-Open.is in
    let low_n : n < length old = omega (arith, live_in law held.kept chosen.1.focal.live, law.states_most, c.args.self.now.bench.marks.ok.0, c.args.self.now.bench.marks_full) in
    let shut = shuts_as s n (Closed c.in-Open.reach) (ap marks_of c.set_mark.ensures.marks ∙ marked_set old n _ low_n) (ap (λ p. standing_of c.args.self.now.standing (vec_items p)) c.set_mark.ensures.path) c.in_ok-self.ensures.1 in
    moves_from c.least_queued-next.result law held least chosen is shut c.expand.ensures (λ in_z. c.least_queued-next.ensures in_z rank_room) (c.raise_to.ensures _)
