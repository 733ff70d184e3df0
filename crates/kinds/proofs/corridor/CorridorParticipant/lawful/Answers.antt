use Rattle.kinds.specs.Corridors.{least_flow, most_flow}
use Rattle.kinds.specs.BetweenLemmas.{between_tells}
use Rattle.kinds.proofs.corridor.CorridorParticipant.lawful.Goals as goal

pub returns-clause-tells : goal.returns-clause-tells
returns-clause-tells c =
    let f = c.args.self.now.figures in
    between_tells (least_flow f) (most_flow f) c.args.schedule.now.megawatts _ c.allows.ensures
