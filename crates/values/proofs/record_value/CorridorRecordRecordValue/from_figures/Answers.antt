use Rattle.std.proofs.Common.{arith}
use Rattle.values.proofs.Quarters.{fits_u16}
use Rattle.values.proofs.record_value.CorridorRecordRecordValue.from_figures.Goals as goal

pub quarters-requires : goal.quarters-requires
quarters-requires c =
    let s = c.requires.3.3.3 in
    (omega arith, (omega arith, fits_u16 _ _ s.0 s.1 (omega arith), fits_u16 _ _ s.3.0 s.3.1 (omega arith), fits_u16 _ _ s.3.3.0 s.3.3.1 (omega arith), fits_u16 _ _ s.3.3.3.0 s.3.3.3.1 (omega arith)))

pub quarters-requires-2 : goal.quarters-requires-2
quarters-requires-2 c =
    let s = c.requires.3.3.3.3.3.3.3 in
    (omega arith, (omega arith, fits_u16 _ _ s.0 s.1 (omega arith), fits_u16 _ _ s.3.0 s.3.1 (omega arith), fits_u16 _ _ s.3.3.0 s.3.3.1 (omega arith), fits_u16 _ _ s.3.3.3.0 s.3.3.3.1 (omega arith)))
