use Rattle.std.proofs.Common.{arith}
use Rattle.std.proofs.lemmas.Int.{ints}
use Rattle.market.specs.Sums.{sum_over}
use Rattle.clearing.specs.Seats.{cost_in, fit_lists}
use Rattle.clearing.proofs.SeatLaws.{sum-joined}
use Rattle.clearing.proofs.fitted.FittedLists.cost.Goals as goal

pub returns : goal.returns
unfolding sum_over
returns g c =
    let all = sum-joined cost_in (fit_lists g.A.Participant.kind g.B.Participant.kind g.C.Participant.kind c.args.self.now) in
    let one = c.cost.ensures in
    let two = c.cost-2.ensures in
    let three = c.cost-3.ensures in
    omega (arith, ints)
