use Rattle.wish.proofs.Lawful.{order_lawful}
use Rattle.wish.proofs.wish_trait.ranks_are_lawful.Goals as goal

pub returns : goal.returns
returns g c =
    let wish = c.args.wish.now in
    order_lawful (g.W.Wish.ranked wish) g.W.Rank.Rank.lawful (g.met.W.Wish.carries wish)
