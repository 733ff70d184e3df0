use Rattle.std.proofs.Common.{◌≡◌, ◌*◌}
use Rattle.market.specs.Sums.{sum_below}
use Rattle.market.specs.Tests.{Within}
use Rattle.market.specs.Kinds.{mw}
use Rattle.market.proofs.schedule.Schedule.total.Given as goal

abbrev pub invariant-loop-megawatts : goal.invariant-loop-megawatts
invariant-loop-megawatts l = (l.sum ≡ sum_below l.megawatts-index (mw l.self.megawatts)) × Within (2147483648 * l.megawatts-index) l.sum
