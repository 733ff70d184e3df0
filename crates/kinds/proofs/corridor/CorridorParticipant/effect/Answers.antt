use Rattle.std.proofs.Common.{ltb, sym, w32, SFits, rules}
use Rattle.std.proofs.lemmas.Int.{to_z-of_z}
use Rattle.std.proofs.lemmas.Bool.{and_parts, ltb-true}
use Rattle.limits.specs.Limits.{quarters, zones}
use Rattle.market.specs.Kinds.{mw}
use Rattle.kinds.specs.CorridorLaws.{flow_within}
use Rattle.kinds.proofs.corridor.CorridorParticipant.effect.Goals as goal

pub flow_into-requires : goal.flow_into-requires
flow_into-requires c =
    let s = c.args.schedule.now.megawatts in
    let q = c.args.cell.quarter in
    let run : SFits w32 (mw s q) = search rules in
    let cell = and_parts (ltb c.args.cell.zone zones) (ltb q quarters) (sym c.if-exists.ensures) in
    let flow = flow_within c.args.self.now.figures c.args.self.now.fits s (sym c.if-allows.ensures) q (ltb-true q quarters cell.1) in
    simp to_z-of_z flow
