use Rattle.std.proofs.Common.{ℕ, ◌&&◌, pos, rules, tests, ◌∙◌}
use Rattle.std.specs.Prelude.{int_le}
use Rattle.std.proofs.lemmas.Iterator.{YieldsList-from_slice}
use Rattle.std.proofs.lemmas.Iterator.Search.{all_from_yields_List}
use Rattle.limits.specs.Limits.{is_quantity, quantity_limit, quarters}
use Rattle.market.proofs.Tests.{every_item}
use Rattle.kinds.proofs.figures.BidFigures.quantities_fit.Goals as goal

pub returns : goal.returns
returns c =
    let test = λ (n : ℕ). int_le (pos n) (pos quantity_limit) && is_quantity c.args.least (pos n) in
    all_from_yields_List test _ _ _ c.all.ensures.ran (YieldsList-from_slice c.args.self.now.quantities cc) (λ x b q k. search (rules, tests))
    ∙ every_item test quarters c.args.self.now.quantities 0 (search rules)
