use Rattle.std.proofs.Common.{arith}
use Rattle.std.proofs.lemmas.Int.{ints}
use Rattle.kinds.proofs.Quarters.{price_within}
use Rattle.kinds.proofs.in_range.PricesInRange.at.Goals as goal

pub returns-clause-within : goal.returns-clause-within
returns-clause-within c =
    let w = price_within c.args.self.now.prices.now.cents c.args.self.now.in_range c.args.cell.zone c.args.cell.quarter in
    let is = c.at.ensures in
    (omega (arith, ints), omega (arith, ints))
