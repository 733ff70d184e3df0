use Rattle.std.proofs.Common.{rules}
use Rattle.market.specs.Cells.{table}
use Rattle.clearing.specs.Seats.{fit_lists, joined}
use Rattle.clearing.specs.Rules.{covered}
use Rattle.clearing.proofs.fitted.FittedLists.first_uncovered_cell.Goals as goal

pub returns : goal.returns
returns g c =
    let t = covered (table c.args.needs.now.megawatts) (joined (fit_lists g.A.Participant.kind g.B.Participant.kind g.C.Participant.kind c.args.self.now)) in
    c.first_failing.ensures t (λ cell b called. search rules)
