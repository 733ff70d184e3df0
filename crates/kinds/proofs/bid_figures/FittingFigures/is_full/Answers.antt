use Rattle.std.proofs.Common.{ℕ, ℤ, rules, tests}
use Rattle.market.specs.Tests.{same_ℤ}
use Rattle.kinds.specs.Bids.{full}
use Rattle.kinds.proofs.bid_figures.FittingFigures.is_full.Goals as goal

pub returns : goal.returns
returns c = c.every_quarter.ensures (λ (q : ℕ) (v : ℤ). same_ℤ v (full c.args.self.now.plain q)) (λ q v b called. search (rules, tests))
