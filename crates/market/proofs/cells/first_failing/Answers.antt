use Rattle.std.proofs.Common.{rules, refl}
use Rattle.limits.specs.Limits.{zones}
use Rattle.market.specs.Cells.{first_in_zone}
use Rattle.market.proofs.Ranges.{mapped_in_range}
use Rattle.market.proofs.cells.first_failing.Goals as goal

pub returns : goal.returns
returns g c = λ t tests.
    mapped_in_range _ (first_in_zone t) (λ k o q call. search rules) zones _ c.find_map.result refl c.find_map.ensures.runs
