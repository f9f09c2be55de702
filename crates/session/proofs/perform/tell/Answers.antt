use Rattle.std.proofs.Common.{◌≡◌, ℕ, ◌-◌, List, length, take, vec_items, sym, ap, ◌∙◌, subst, arith}
use Rattle.std.proofs.lemmas.List.{length-take}
use Rattle.course.specs.Calls.{Does, route, told}
use Rattle.wish.specs.Wished.{order_of}
use Rattle.planner.specs.Lasts.{state_of}
use Rattle.session.proofs.Lives.{written_front}
use Rattle.session.proofs.perform.tell.Goals as goal

pub slice_bounds-to_vec-end : goal.slice_bounds-to_vec-end
slice_bounds-to_vec-end g c = omega (arith, c.in-Ok.ensures.counted, length-take c.in-Ok.told.len c.route.new.row)

pub returns-in_ok-states-in-Ok : goal.returns-in_ok-states-in-Ok
returns-in_ok-states-in-Ok g c =
    let t = c.in-Ok.told in
    let s = state_of c.args.last.now in
    let states = vec_items c.in_ok-states-in-Ok.states in
    let all : t.len - 0 ≡ t.len = omega arith in
    let items : states ≡ take t.len c.route.new.row = c.in_ok-states-in-Ok.ensures.items_if_clones_equal (λ x y e. e) ∙ ap (λ n. take n c.route.new.row) all in
    let D : List ℕ → Type 0 = λ l.
    Does (g.B.Blank.meaning c.args.last.now.blank) (order_of (g.W.Wish.ranked c.args.last.now.wish) g.W.Rank.Rank.precedes) s (route (length c.args.row.now)) (told l t.cost t.floor) s in
    record {
      does = subst D (sym items) c.in-Ok.ensures.does;
      row = written_front c.args.row.now c.route.new.row states t.len (sym items) (ap length items ∙ c.in-Ok.ensures.counted) c.in-Ok.ensures.rest;
    }
