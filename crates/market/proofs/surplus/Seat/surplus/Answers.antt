use Rattle.std.proofs.Common.{arith}
use Rattle.std.proofs.lemmas.Int.{ints}
use Rattle.market.proofs.Answers.{cost_within}
use Rattle.market.proofs.surplus.Seat.surplus.Goals as goal

pub overflow_sub-result : goal.overflow_sub-result
overflow_sub-result g c =
    let paid = cost_within _ (g.met.K.Participant.sound c.args.self.now.participant.now) _ c.cost.result c.cost.ensures in
    let all = c.worth.ensures.within in
    omega (arith, ints)

pub returns : goal.returns
returns g c =
    let paid = cost_within _ (g.met.K.Participant.sound c.args.self.now.participant.now) _ c.cost.result c.cost.ensures in
    let all = c.worth.ensures.within in
    let is = c.worth.ensures.value in
    let e = c.cost.ensures in
    record { value = omega (arith, ints); within = omega (arith, ints) }
