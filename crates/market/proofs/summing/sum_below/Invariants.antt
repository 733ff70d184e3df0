use Rattle.std.proofs.Common.{◌≡◌, ℕ, ℤ, ◌*◌}
use Rattle.market.specs.Sums.{AmountsBelow, SmallBelow, sum_below}
use Rattle.market.specs.Tests.{Within}
use Rattle.market.proofs.summing.sum_below.Given as goal

abbrev pub invariant-loop-number : goal.invariant-loop-number
invariant-loop-number g l =
    ((f : ℕ → ℤ) → AmountsBelow l.n (goal.F-post g l.amount) f → l.sum ≡ sum_below l.number f)
    × ((limit : ℕ) → SmallBelow l.n (goal.F-post g l.amount) limit → Within (limit * l.number) l.sum)
