use Rattle.std.proofs.Common.{rules, ◌≡◌, ◌∙◌, ap, true, false}
use Rattle.limits.specs.Limits.{quarters}
use Rattle.market.proofs.Searches.{quarter_in_range}
use Rattle.std.proofs.lemmas.Iterator.{first_from_Range}
use Rattle.market.specs.Cells.{in_zone}
use Rattle.market.proofs.cells.first_failing_in.Goals as goal

pub returns : goal.returns
returns g c = λ t tests.
    let found = first_from_Range _ _ _ c.find.result (λ q. t c.args.zone q ≡ false) (λ q. t c.args.zone q ≡ true) c.find.ensures.ran (λ q f k. let z = tests (record { zone = c.args.zone; quarter = q }) in search (rules, z)) (λ q f k. let z = tests (record { zone = c.args.zone; quarter = q }) in search (rules, z)) in
    let is : c.map.result ≡ in_zone c.args.zone c.find.result = search rules in
    is ∙ ap (in_zone c.args.zone) (quarter_in_range (t c.args.zone) quarters c.find.result found)
