use Rattle.std.proofs.Common.{rules}
use Rattle.market.specs.Kinds.{quarter_worth_limit}
use Rattle.market.proofs.surplus.Seat.worth_in_zone.Goals as goal

pub returns-clause-within : goal.returns-clause-within
returns-clause-within g c =
    let w = c.sum_below.ensures.within quarter_worth_limit (λ q r h k. search rules) in
    search (rules, w)
