use Rattle.std.proofs.Common.{w32, w64, SFits, rules}
use Rattle.std.proofs.lemmas.Int.{to_z-of_z}
use Rattle.limits.specs.Limits.{effect_limit}
use Rattle.market.specs.Tests.{Within}
use Rattle.market.proofs.Sums.{product_within}
use Rattle.kinds.specs.Between.{gain_limit, margin_limit}
use Rattle.kinds.proofs.bid_figures.FittingFigures.full_gain_in.Goals as goal

pub returns-clause-within : goal.returns-clause-within
returns-clause-within c =
    let margin : SFits w32 c.margin.result = search rules in
    let full : SFits w32 c.full.result = search rules in
    let fits : SFits w64 c.money.result = search rules in
    let small : Within gain_limit c.money.result = rw (simp to_z-of_z at c.money.ensures) (product_within margin_limit effect_limit _ _ c.margin.ensures.within c.full.ensures.within) in
    simp to_z-of_z small
