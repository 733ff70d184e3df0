use Rattle.std.proofs.Common.{arith}
use Rattle.std.proofs.lemmas.Int.{ints}
use Rattle.market.specs.Sums.{sum_over}
use Rattle.market.specs.Cells.{table}
use Rattle.clearing.specs.Seats.{forgoes, fit_lists}
use Rattle.clearing.proofs.SeatLaws.{sum-joined}
use Rattle.clearing.proofs.fitted.FittedLists.forgone.Goals as goal

pub returns : goal.returns
unfolding sum_over
returns g c =
    let all = sum-joined (forgoes (table c.args.prices.now.cents)) (fit_lists g.A.Participant.kind g.B.Participant.kind g.C.Participant.kind c.args.self.now) in
    let one = c.forgone.ensures in
    let two = c.forgone-2.ensures in
    let three = c.forgone-3.ensures in
    omega (arith, ints)
