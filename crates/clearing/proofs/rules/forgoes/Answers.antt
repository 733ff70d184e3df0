use Rattle.std.proofs.Common.{arith}
use Rattle.std.proofs.lemmas.Int.{ints}
use Rattle.market.proofs.Answers.{best_within}
use Rattle.clearing.proofs.rules.forgoes.Goals as goal

pub overflow_sub-result : goal.overflow_sub-result
overflow_sub-result g c =
    let best = best_within _ (g.met.K.Participant.sound c.args.seat.now.participant.now) _ c.best_surplus.result c.best_surplus.ensures in
    let own = c.surplus.ensures.within in
    omega (arith, ints)

pub returns : goal.returns
returns g c =
    let best = best_within _ (g.met.K.Participant.sound c.args.seat.now.participant.now) _ c.best_surplus.result c.best_surplus.ensures in
    let own = c.surplus.ensures.within in
    let best-is = c.best_surplus.ensures in
    let own_is = c.surplus.ensures.value in
    record { value = omega (arith, ints); within = omega (arith, ints) }
