use Rattle.std.proofs.Common.{◌≡◌, ◌+◌, ap, ◌∙◌, rules, tests, arith}
use Rattle.std.specs.List.{zip}
use Rattle.std.specs.Option.{option_map}
use Rattle.std.proofs.lemmas.Iterator.{YieldsList-from_slice, YieldsList-from_zip}
use Rattle.std.proofs.lemmas.Iterator.Adapters.{position_from-zero}
use Rattle.std.proofs.lemmas.Iterator.Search.{position_from_yields_List}
use Rattle.layout.proofs.RoundTrip.{fails, first_place}
use Rattle.layout.proofs.fields.Fields.first_bad.Goals as goal

pub returns : goal.returns
returns c =
    let fs = c.args.self.list.now in
    let x = c.args.figures.now in
    let e = position_from_yields_List (fails x) c.position.new.self _ c.position.result c.position.ensures.ran (YieldsList-from_zip (YieldsList-from_slice fs cc) (YieldsList-from_slice x cc)) (λ x b q k. search (rules, tests)) ∙ position_from-zero (fails x) (zip fs x) in
    let m : c.map.result ≡ option_map (λ place. place + 2) c.position.result = search rules in
    m ∙ ap (option_map (λ place. place + 2)) e ∙ first_place fs 0 x (omega (arith, c.args.self.laid.few))
