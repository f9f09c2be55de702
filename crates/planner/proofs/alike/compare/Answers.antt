use Rattle.wish.proofs.Lawful.{order_lawful}
use Rattle.planner.proofs.Agreed.{agreed}
use Rattle.planner.proofs.alike.compare.Goals as goal

pub returns : goal.returns
returns g c =
    let blank = c.args.first.now.blank in
    let wish = c.args.first.now.wish in
    record {
      first = c.show-first_shown.ensures;
      second = c.show-second_shown.ensures;
      tells = c.route.ensures;
      others = c.route-2.ensures;
      agree = agreed c.args.first_row.now c.route.new.row c.args.second_row.now c.route-2.new.row c.show-first_shown.result c.show-second_shown.result c.route.result c.route-2.result (g.A.Blank.lawful blank)
          (order_lawful (g.V.Wish.ranked wish) g.V.Rank.Rank.lawful (g.met.V.Wish.carries wish))
          c.show-first_shown.ensures c.show-second_shown.ensures c.route.ensures c.route-2.ensures;
    }
