use Rattle.std.proofs.Common.{◌∙◌, not, rules}
use Rattle.std.proofs.lemmas.Iterator.{YieldsList-from_slice, YieldsList-from_zip}
use Rattle.std.proofs.lemmas.Iterator.Search.{position_from_yields_List}
use borrow.Author.Tests.{tests}
use Rattle.market.specs.Cells.{table}
use Rattle.clearing.specs.Rules.{keeps}
use Rattle.clearing.specs.Seats.{seat}
use Rattle.clearing.proofs.SeatLaws.{position_fails}
use Rattle.clearing.proofs.fitted.Fitted.first_breach.Goals as goal

pub returns : goal.returns
returns g c =
    let kind = g.K.Participant.kind in
    let t = keeps c.args.rule (table c.args.prices.now.cents) in
    position_from_yields_List (λ p. not (t (seat (kind p.0) p.1.megawatts))) c.position.new.self _ c.position.result c.position.ensures.ran (YieldsList-from_zip (YieldsList-from_slice c.args.self.now.participants.now (search rules)) (YieldsList-from_slice c.args.self.now.schedules.now (search rules))) (λ p b q k. search (rules, tests))
    ∙ position_fails kind t c.args.self.now.participants.now c.args.self.now.schedules.now
