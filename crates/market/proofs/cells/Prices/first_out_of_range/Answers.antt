use Rattle.std.proofs.Common.{rules}
use Rattle.limits.specs.Limits.{price_limit}
use Rattle.market.specs.Cells.{price_fits, table}
use Rattle.market.specs.Tests.{Within}
use Rattle.market.proofs.Searches.{every_cell_or_first}
use Rattle.market.proofs.Tests.{within_fails, within_out}
use Rattle.market.proofs.cells.Prices.first_out_of_range.Goals as goal

pub returns : goal.returns
returns c =
    let p = table c.args.self.now.cents in
    let answer = c.first_failing.ensures (price_fits p) (λ cell b called. search rules) in
    record {
      answer = answer;
      first = every_cell_or_first (λ z q. Within price_limit (p z q)) (price_fits p) (λ z q. within_out price_limit (p z q)) (λ z q. within_fails price_limit (p z q)) c.first_failing.result answer;
    }
