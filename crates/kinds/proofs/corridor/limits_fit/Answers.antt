use Rattle.std.proofs.Common.{ℕ, leb, rules, tests, ◌∙◌}
use Rattle.std.proofs.lemmas.Iterator.{YieldsList-from_slice}
use Rattle.std.proofs.lemmas.Iterator.Search.{all_from_yields_List}
use Rattle.limits.specs.Limits.{corridor_limit, quarters}
use Rattle.market.proofs.Tests.{every_item}
use Rattle.kinds.proofs.corridor.limits_fit.Goals as goal

pub returns : goal.returns
returns c =
    let test = λ (limit : ℕ). leb limit corridor_limit in
    all_from_yields_List test _ _ _ c.all.ensures.ran (YieldsList-from_slice c.args.limits.now cc) (λ x b q k. search (rules, tests))
    ∙ every_item test quarters c.args.limits.now 0 (search rules)
