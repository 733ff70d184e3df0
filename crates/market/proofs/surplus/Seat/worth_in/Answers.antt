use Rattle.std.proofs.Common.{◌≡◌, ◌*ℤ◌, w32, SFits, rules}
use Rattle.std.proofs.lemmas.Int.{to_z-of_z}
use Rattle.limits.specs.Limits.{effect_limit}
use Rattle.market.specs.Tests.{Within}
use Rattle.market.specs.Kinds.{quarter_worth_limit}
use Rattle.market.proofs.Sums.{fits_within, product_within}
use Rattle.market.proofs.Answers.{effect_within}
use Rattle.market.proofs.surplus.Seat.worth_in.Goals as goal

pub returns-clause-within : goal.returns-clause-within
returns-clause-within g c =
    let price : SFits w32 c.at.result = search rules in
    let added : SFits w32 c.effect.result = search rules in
    let few = effect_within _ (g.met.K.Participant.sound c.args.self.now.participant.now) _ _ _ c.effect.result c.effect.ensures in
    let product : c.money.result ≡ c.at.result *ℤ c.effect.result = simp to_z-of_z at c.money.ensures in
    let small : Within quarter_worth_limit c.money.result = rw product (product_within 2147483648 effect_limit c.at.result c.effect.result (fits_within c.at.result price) few) in
    search (rules, small)
