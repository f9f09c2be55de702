use Rattle.std.proofs.Common.{◌≡◌, ◌+◌, List, map, length, take, vec_items, sym, refl, ap, ◌∙◌, subst, arith}
use Rattle.std.proofs.lemmas.List.{take_all, length_push}
use Rattle.std.proofs.lemmas.Result.{IfOk-from_err}
use Rattle.text.specs.declared.Order.{Order}
use Rattle.course.specs.Calls.{Call, Answer, Life}
use Rattle.wish.specs.Wished.{order_of}
use Rattle.planner.specs.Lasts.{state_of}
use Rattle.session.specs.Replies.{call_of, answer_of, all_written}
use Rattle.session.specs.Lived.{newest_first}
use Rattle.session.proofs.Lives.{lives_more, does_at, written_more, no_work_more}
use Rattle.session.proofs.perform.perform_each.Goals as goal

pub loop-order-init : goal.loop-order-init
loop-order-init g c = (refl, refl, ap length c.new-replies.ensures.items, record { some = c.args.last.now.lived; every = λ cs life. life }, ap (λ l. all_written (map answer_of l) c.args.row.now) (sym c.new-replies.ensures.items), λ none. (refl, refl))

pub loop-order-preserved : goal.loop-order-preserved
loop-order-preserved g c =
    let call = call_of (length c.args.costs.now) (length c.args.wishes.now) (length c.args.row.now) in
    let y = state_of c.loop-order.last in
    let z = state_of c.perform.new.last in (
      c.perform.ensures.blank ∙ c.loop-order.invariant.0,
      c.perform.ensures.wish ∙ c.loop-order.invariant.1,
      ap length c.in_ok-push.ensures.items ∙ length_push (vec_items c.loop-order.replies) c.in_ok-reply.reply ∙ ap (λ n. n + 1) c.loop-order.invariant.2,
      record {
        some = c.loop-order.invariant.3.some;
        every = λ cs life.
            lives_more cs call c.args.orders.now c.loop-order.order-index _ (vec_items c.loop-order.replies) (vec_items c.push.new.self) c.in_ok-reply.reply
            (omega arith) c.loop-order.invariant.2 c.in_ok-push.ensures.items (c.loop-order.invariant.3.every cs life)
            ((does_at _ c.in_ok-reply.reply (ap g.B.Blank.meaning c.loop-order.invariant.0) (ap (λ w. order_of (g.W.Wish.ranked w) g.W.Rank.Rank.precedes) c.loop-order.invariant.1) c.loop-order.auto.costs c.loop-order.auto.wishes c.loop-order.auto.row
            c.in_ok-reply.ensures.does).every _ (c.loop-order.invariant.3.every cs life));
      },
      written_more (vec_items c.loop-order.replies) (vec_items c.push.new.self) c.in_ok-reply.reply c.args.row.now c.loop-order.row
          c.perform.new.row c.in_ok-push.ensures.items c.loop-order.invariant.4 c.in_ok-reply.ensures.row,
      λ none.
          let parts =
          no_work_more (vec_items c.loop-order.replies) (vec_items c.push.new.self) c.in_ok-reply.reply c.in_ok-push.ensures.items none in
          let before = c.loop-order.invariant.5 parts.0 in
          let here = c.in_ok-reply.ensures.ranks parts.1 in
          (here.0 ∙ before.0, here.1 ∙ before.1),
    )

pub returns-in_err-reply : goal.returns-in_err-reply
returns-in_err-reply g c = record {
  every = IfOk-from_err _ _ c.from_residual.ensures.0;
  lives = IfOk-from_err _ _ c.from_residual.ensures.0;
  row = IfOk-from_err _ _ c.from_residual.ensures.0;
  ranks = IfOk-from_err _ _ c.from_residual.ensures.0;
  blank = c.perform.ensures.blank ∙ c.loop-order.invariant.0;
  wish = c.perform.ensures.wish ∙ c.loop-order.invariant.1;
}

pub returns : goal.returns
returns g c =
    let all : take c.loop-order.order-index c.args.orders.now ≡ c.args.orders.now = take_all c.loop-order.order-index c.args.orders.now (omega arith) in
    let call = call_of (length c.args.costs.now) (length c.args.wishes.now) (length c.args.row.now) in
    let L : List (Call × Answer) → List Order → Type 0 = λ cs os.
    Life (g.B.Blank.meaning c.args.last.now.blank) (order_of (g.W.Wish.ranked c.args.last.now.wish) g.W.Rank.Rank.precedes) (newest_first (map call os) (map answer_of (vec_items c.loop-order.replies)) cs) (state_of c.loop-order.last) in
    record {
      every = omega (arith, c.loop-order.invariant.2);
      lives = record { some = c.loop-order.invariant.3.some; every = λ cs life. subst (L cs) all (c.loop-order.invariant.3.every cs life) };
      row = c.loop-order.invariant.4;
      ranks = c.loop-order.invariant.5;
      blank = c.loop-order.invariant.0;
      wish = c.loop-order.invariant.1;
    }
