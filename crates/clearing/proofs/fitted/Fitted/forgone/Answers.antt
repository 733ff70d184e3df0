use Rattle.std.proofs.Common.{arith, rules}
use Rattle.std.proofs.lemmas.Int.{ints}
use Rattle.clearing.specs.Seats.{forgoes_limit}
use Rattle.clearing.proofs.fitted.Fitted.forgone.Goals as goal

pub returns-clause-within : goal.returns-clause-within
returns-clause-within g c =
    let w = c.sum.ensures.within forgoes_limit (λ s r k. search rules) in
    omega (arith, ints)
