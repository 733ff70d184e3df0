use Rattle.std.proofs.Common.{◌≡◌, Bool, not, is_some, Some, None, Option, sym, ◌∙◌}
use Rattle.std.proofs.lemmas.Bool.{not-false, not-true}
use Rattle.market.specs.Cells.{first_cell, in_range, price_fits, table}
use Rattle.market.specs.declared.cells.Cell.{Cell}
use Rattle.market.proofs.Searches.{none_every, some_every}
use Rattle.market.proofs.Tests.{range_in, range_out}
use Rattle.market.proofs.cells.Prices.in_range.Goals as goal

answer : (c : goal.After-is_none) → c.is_none.result ≡ in_range (table c.args.self.now.cents)
answer c = go c.first_out_of_range.result (sym c.first_out_of_range.ensures.answer) c.is_none.result c.is_none.ensures
  where
    go : (o : Option Cell) → first_cell (price_fits (table c.args.self.now.cents)) ≡ o → (b : Bool) → is_some o ≡ not b → b ≡ in_range (table c.args.self.now.cents)
    go None e b f = not-false b (sym f) ∙ sym (none_every (price_fits (table c.args.self.now.cents)) e)
    go (Some cell) e b f = not-true b (sym f) ∙ sym (some_every (price_fits (table c.args.self.now.cents)) cell e)

pub returns : goal.returns
returns c =
    let p = table c.args.self.now.cents in
    record {
      answer = answer c;
      tells = ((λ e. range_out p (sym (answer c) ∙ e)), (λ w. answer c ∙ range_in p w));
    }
