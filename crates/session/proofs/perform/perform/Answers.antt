use Rattle.std.proofs.Common.{refl, rules}
use Rattle.session.proofs.Lives.{was_work}
use Rattle.session.proofs.perform.perform.Goals as goal

pub returns-in-Ok : goal.returns-in-Ok
returns-in-Ok g c = record { does = search rules; row = refl; ranks = λ none. was_work none; blank = search rules; wish = search rules }
