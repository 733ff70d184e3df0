use Rattle.std.proofs.Common.{arith}
use Rattle.std.proofs.lemmas.Int.{ints}
use Rattle.limits.specs.Limits.{corridor_limit}
use Rattle.kinds.specs.CorridorLaws.{forward_below}
use Rattle.kinds.proofs.Quarters.{figure_below}
use Rattle.kinds.proofs.corridor.CorridorLimited.most.Goals as goal

pub returns-clause-within : goal.returns-clause-within
returns-clause-within c =
    let f = c.args.self.now.figures in
    let is = c.in_quarter.ensures in
    let below = figure_below corridor_limit f.forward c.args.quarter c.in_quarter.result is.value is.past (forward_below f c.args.self.now.fits c.args.quarter) in
    (omega (arith, ints), omega (arith, ints))
