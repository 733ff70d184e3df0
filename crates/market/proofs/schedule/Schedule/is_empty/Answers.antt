use Rattle.std.proofs.Common.{ℤ, pos, rules, ◌∙◌}
use borrow.Author.Tests.{tests}
use Rattle.std.proofs.lemmas.Iterator.{YieldsList-from_slice}
use Rattle.std.proofs.lemmas.Iterator.Search.{all_from_yields_List}
use Rattle.limits.specs.Limits.{quarters}
use Rattle.market.specs.Tests.{same_ℤ}
use Rattle.market.proofs.Tests.{every_item}
use Rattle.market.proofs.schedule.Schedule.is_empty.Goals as goal

pub returns-clause-answer : goal.returns-clause-answer
returns-clause-answer c =
    let test = λ (x : ℤ). same_ℤ x (pos 0) in
    let s = c.args.self.now.megawatts in
    all_from_yields_List test _ _ _ c.all.ensures.ran (YieldsList-from_slice s cc) (λ x b q k. search (rules, tests))
    ∙ every_item test quarters s (pos 0) (search rules)
