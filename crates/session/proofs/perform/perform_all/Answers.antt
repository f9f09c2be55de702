use Rattle.std.proofs.Common.{length, ap, ◌∙◌}
use Rattle.wish.specs.Wished.{order_of}
use Rattle.planner.specs.Lasts.{state_of}
use Rattle.session.specs.Replies.{call_of}
use Rattle.session.proofs.Lives.{lived_by}
use Rattle.session.proofs.perform.perform_all.Goals as goal

pub returns : goal.returns
returns g c = record {
  idle = c.lift.ensures.idle;
  blank = c.lift.ensures.blank ∙ c.perform_each-replies.ensures.blank ∙ c.clamp-last.ensures.blank;
  wish = c.lift.ensures.wish ∙ c.perform_each-replies.ensures.wish ∙ c.clamp-last.ensures.wish;
  lived = lived_by (state_of c.perform_each-replies.new.last) (call_of (length c.args.costs.now) (length c.args.wishes.now) (length c.args.row.now)) c.args.orders.now c.perform_each-replies.result
      (g.B.Blank.lawful c.args.blank) (ap g.B.Blank.meaning c.clamp-last.ensures.blank) (ap (λ w. order_of (g.W.Wish.ranked w) g.W.Rank.Rank.precedes) c.clamp-last.ensures.wish)
      c.clamp-last.ensures.life c.perform_each-replies.ensures.every c.perform_each-replies.ensures.lives;
  row = c.perform_each-replies.ensures.row;
  ranks = c.perform_each-replies.ensures.ranks;
}
