use Rattle.std.proofs.Common.{ℕ, ℤ, rules, tests, ◌&&◌}
use Rattle.std.specs.Prelude.{int_le}
use Rattle.kinds.proofs.limited.Limited.allows.Goals as goal

pub returns : goal.returns
returns g c = c.every_quarter.ensures (λ (q : ℕ) (v : ℤ). int_le (g.Self.Limited.least c.args.self.now q) v && int_le v (g.Self.Limited.most c.args.self.now q)) (λ q v b called. search (rules, tests))
