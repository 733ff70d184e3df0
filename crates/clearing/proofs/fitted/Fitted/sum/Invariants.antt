use Rattle.std.proofs.Common.{◌≡◌, ℕ, ◌*◌, ℤ, length, take}
use Rattle.market.specs.Sums.{sum_over}
use Rattle.market.specs.Tests.{Within}
use Rattle.clearing.specs.Seats.{Amounts, Seat, Small, seats}
use Rattle.clearing.proofs.fitted.Fitted.sum.Given as goal

abbrev pub invariant-loop-participant : goal.invariant-loop-participant
invariant-loop-participant g l =
    ((f : Seat → ℤ) → Amounts g.K.Participant.kind (goal.F-post g l.amount) f → l.sum ≡ sum_over f (seats g.K.Participant.kind (take (length l.yielded) l.self.participants.now) (take (length l.yielded) l.self.schedules.now)))
    × ((limit : ℕ) → Small (goal.F-post g l.amount) limit → Within (limit * length l.yielded) l.sum)
