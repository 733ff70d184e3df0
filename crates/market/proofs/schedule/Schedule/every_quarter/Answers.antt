use Rattle.std.proofs.Common.{ℕ, ℤ, pos, rules, ◌∙◌}
use Rattle.std.proofs.lemmas.Iterator.{YieldsList-from_slice}
use Rattle.std.proofs.lemmas.Iterator.Consumers.{YieldsList-from_enumerate}
use Rattle.std.proofs.lemmas.Iterator.Search.{all_from_yields_List}
use Rattle.limits.specs.Limits.{quarters}
use Rattle.market.proofs.Tests.{every_numbered}
use Rattle.market.proofs.schedule.Schedule.every_quarter.Goals as goal

pub returns : goal.returns
returns g c = λ t judges.
    let s = c.args.self.now.megawatts in
    all_from_yields_List (λ (p : ℕ × ℤ). t p.0 p.1) _ _ _ c.all.ensures.ran (YieldsList-from_enumerate (YieldsList-from_slice s cc) cc) (λ x b q k. let z = judges x.0 x.1.now b in search (rules, z))
    ∙ every_numbered t quarters s (pos 0) (search rules)
