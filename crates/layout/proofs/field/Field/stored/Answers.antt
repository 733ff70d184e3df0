use Rattle.std.proofs.Common.{◌≡◌, ◌+ℤ◌, arith, w64, SFits}
use Rattle.std.proofs.lemmas.Int.{to_z-of_z}
use Rattle.layout.specs.Fields.{stored_as}
use Rattle.layout.proofs.Stored.{stored_below, sum_fits, admits_parts}
use Rattle.layout.proofs.field.Field.stored.Goals as goal

pub returns : goal.returns
returns c =
    let f = c.args.self in
    let x = c.args.figure in
    let p = admits_parts f c.args.figures.now x c.requires.admitted in
    let s : SFits w64 (x +ℤ f.offset) = sum_fits f x c.requires.proper p.0 p.1 in
    let e : c.cast_unsigned.result ≡ stored_as f x = grind (arith, to_z-of_z) in
    record { value = e; narrow = rw e (stored_below f x c.requires.proper p.0 p.1) }
