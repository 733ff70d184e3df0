use Rattle.std.proofs.Common.{rules, arith, unsigned_abs}
use Rattle.std.specs.Result.{OkIff}
use Rattle.std.specs.Int.{FitsUnsignedBits}
use Rattle.std.specs.declared.num.TryFromIntError.{TryFromIntError}
use Rattle.values.proofs.Quarters.{quarters_given, fits_u16}
use Rattle.values.proofs.record_value.BidRecordRecordValue.from_figures.Goals as goal

pub quarters-requires : goal.quarters-requires
quarters-requires c =
    let s = c.requires.3.3.3.3.3 in
    (omega arith, (omega arith, fits_u16 _ _ s.0 s.1 (omega arith), fits_u16 _ _ s.3.0 s.3.1 (omega arith), fits_u16 _ _ s.3.3.0 s.3.3.1 (omega arith), fits_u16 _ _ s.3.3.3.0 s.3.3.3.1 (omega arith)))

pub returns : goal.returns
returns c = let q = quarters_given {E = TryFromIntError} (λ x r. OkIff r (FitsUnsignedBits 16 x) (unsigned_abs x)) unsigned_abs (λ x v e. e.1) c.args.figures.now 5 c.quarters.result c.quarters.ensures in search rules
