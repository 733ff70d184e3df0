use Rattle.std.proofs.Common.{rules, ◌∙◌, arith}
use Rattle.std.proofs.lemmas.Iterator.{YieldsList-from_slice, YieldsList-from_map}
use Rattle.std.proofs.lemmas.Iterator.Consumers.{YieldsList-at, sum_by_from_yields_List, fits_by_from_yields_list}
use Rattle.layout.proofs.RoundTrip.{bits_sum}
use Rattle.layout.proofs.fields.Fields.used_bits.Goals as goal

pub sum-requires-clause-fits : goal.sum-requires-clause-fits
sum-requires-clause-fits c =
    let fs = c.args.self.list.now in
    fits_by_from_yields_list _ _ c.map.result _ (YieldsList-from_map _ (λ f. f.width) (YieldsList-at c.map.ensures.source (YieldsList-from_slice fs cc)) c.map.ensures.closure (λ x r q k. search rules)) (omega (arith, bits_sum fs, c.args.self.laid.below))

pub returns : goal.returns
returns c = sum_by_from_yields_List _ _ c.map.result _ c.sum.ensures.ran (YieldsList-from_map _ (λ f. f.width) (YieldsList-at c.map.ensures.source (YieldsList-from_slice c.args.self.list.now cc)) c.map.ensures.closure (λ x r q k. search rules)) ∙ bits_sum c.args.self.list.now
