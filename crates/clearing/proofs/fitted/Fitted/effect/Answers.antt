use Rattle.std.proofs.Common.{◌*◌, arith, rules}
use Rattle.std.proofs.lemmas.Int.{ints}
use Rattle.limits.specs.Limits.{effect_limit, list_limit}
use Rattle.market.specs.Tests.{Within}
use Rattle.market.proofs.Answers.{effect_within}
use Rattle.clearing.proofs.fitted.Fitted.effect.Goals as goal

pub returns-clause-within : goal.returns-clause-within
returns-clause-within g c =
    let w : Within (list_limit * effect_limit) c.sum.result = c.sum.ensures.within effect_limit (λ s r k. effect_within (g.K.Participant.kind s.participant.now) (g.met.K.Participant.sound s.participant.now) s.schedule.now.megawatts c.args.cell.zone c.args.cell.quarter r (search rules)) in
    omega (arith, ints)
