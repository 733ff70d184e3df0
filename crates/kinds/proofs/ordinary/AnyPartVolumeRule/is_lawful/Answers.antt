use Rattle.kinds.specs.Bids.{least_volume, most_volume}
use Rattle.kinds.specs.BetweenLemmas.{between_tells}
use Rattle.kinds.proofs.ordinary.AnyPartVolumeRule.is_lawful.Goals as goal

pub returns-clause-tells : goal.returns-clause-tells
returns-clause-tells c =
    let f = c.args.figures.now.plain in
    between_tells (least_volume f) (most_volume f) c.args.schedule.now.megawatts _ c.allows.ensures
