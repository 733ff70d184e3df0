use Rattle.std.proofs.Common.{SFits, rules, sym, w64}
use Rattle.std.proofs.lemmas.Int.{to_z-of_z}
use Rattle.kinds.specs.BidLaws.{quantity_below}
use Rattle.kinds.proofs.figures.BidFigures.fitting.Goals as goal

pub invariant_of-result : goal.invariant_of-result
invariant_of-result c =
    let least : SFits w64 c.args.least = search rules in
    record {
      zone_and_price = sym c.if-zone_and_price_fit.ensures;
      bounded = quantity_below c.args.least c.args.self.now (sym (simp to_z-of_z at c.if-quantities_fit.ensures));
    }
