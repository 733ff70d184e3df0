use Rattle.std.proofs.Common.{◌*◌, arith, rules}
use Rattle.std.proofs.lemmas.Int.{ints}
use Rattle.limits.specs.Limits.{cost_limit, list_limit}
use Rattle.market.specs.Tests.{Within}
use Rattle.market.proofs.Answers.{cost_within}
use Rattle.clearing.proofs.fitted.Fitted.cost.Goals as goal

pub returns-clause-within : goal.returns-clause-within
returns-clause-within g c =
    let w : Within (list_limit * cost_limit) c.sum.result = c.sum.ensures.within cost_limit (λ s r k. cost_within (g.K.Participant.kind s.participant.now) (g.met.K.Participant.sound s.participant.now) s.schedule.now.megawatts r (search rules)) in
    omega (arith, ints)
