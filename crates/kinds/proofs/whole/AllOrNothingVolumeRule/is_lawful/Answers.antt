use Rattle.kinds.specs.BidLaws.{whole_tells}
use Rattle.kinds.proofs.whole.AllOrNothingVolumeRule.is_lawful.Goals as goal

pub returns-clause-tells : goal.returns-clause-tells
returns-clause-tells c = whole_tells c.args.figures.now.plain c.args.schedule.now.megawatts _ c.is_empty_or_full.ensures
