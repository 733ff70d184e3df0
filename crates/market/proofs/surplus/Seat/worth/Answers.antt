use Rattle.std.proofs.Common.{ℕ, ◌*ℤ◌, ◌∙◌, w64, rules}
use Rattle.std.proofs.lemmas.Int.{to_z-of_z}
use Rattle.limits.specs.Limits.{quarters}
use Rattle.market.specs.Sums.{sum_below, sum_cells}
use Rattle.market.specs.Cells.{table}
use Rattle.market.specs.Kinds.{zone_worth_limit}
use Rattle.market.proofs.surplus.Seat.worth.Goals as goal

pub returns-clause-value : goal.returns-clause-value
unfolding sum_cells
returns-clause-value g c =
    let f = λ (z : ℕ). sum_below quarters (λ q. table c.args.prices.now.cents z q *ℤ (g.K.Participant.kind c.args.self.now.participant.now).effect c.args.self.now.schedule.now.megawatts z q) in
    to_z-of_z w64 c.sum_below.result (search rules) ∙ c.sum_below.ensures.value f (λ z r h k. search rules)

pub returns-clause-within : goal.returns-clause-within
returns-clause-within g c =
    let w = c.sum_below.ensures.within zone_worth_limit (λ z r h k. search rules) in
    search (rules, w)
