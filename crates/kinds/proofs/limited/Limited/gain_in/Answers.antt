use Rattle.std.proofs.Common.{arith, w32, w64, SFits, rules}
use Rattle.std.proofs.lemmas.Int.{clamps, ints, to_z-of_z}
use Rattle.limits.specs.Limits.{effect_limit}
use Rattle.market.specs.Tests.{Within}
use Rattle.market.proofs.Sums.{product_within}
use Rattle.kinds.specs.Between.{gain_limit, margin_limit}
use Rattle.kinds.proofs.limited.Limited.gain_in.Goals as goal

pub returns-clause-within : goal.returns-clause-within
returns-clause-within g c =
    let margin : SFits w32 c.margin-margin.result = search rules in
    let least : SFits w32 c.least.result = search rules in
    let most : SFits w32 c.most.result = search rules in
    let one : SFits w64 c.money.result = search rules in
    let other : SFits w64 c.money-2.result = search rules in
    let fits : SFits w64 c.max.result = search rules in
    let low : Within gain_limit c.money.result = rw (simp to_z-of_z at c.money.ensures) (product_within margin_limit effect_limit _ _ c.margin-margin.ensures.within c.least.ensures.within) in
    let high : Within gain_limit c.money-2.result = rw (simp to_z-of_z at c.money-2.ensures) (product_within margin_limit effect_limit _ _ c.margin-margin.ensures.within c.most.ensures.within) in
    let is = simp to_z-of_z at c.max.ensures.value in
    (omega (arith, ints, clamps), omega (arith, ints, clamps))
