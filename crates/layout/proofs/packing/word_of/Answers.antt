use Rattle.std.proofs.Common.{◌*◌, ◌^◌, mod-eq_of_lt, arith}
use Rattle.layout.specs.Packing.{InRange}
use Rattle.layout.proofs.LaidOut.{number_below}
use Rattle.layout.proofs.RoundTrip.{packed_below}
use Rattle.layout.proofs.packing.word_of.Goals as goal

pub overflow_add-result : goal.overflow_add-result
overflow_add-result c =
    let fields = c.fields.result in
    let x = c.args.figures.now in
    let s : InRange fields.list.now 0 x = rw c.fields.ensures c.in-None.ensures.first in
    let b = packed_below fields.list.now 124 0 x fields.laid.each s fields.laid.below in
    let n = number_below c.args.kind in
    record { fits = omega (arith, c.from.ensures, c.number.ensures, c.pack.ensures, mod-eq_of_lt {n = c.from.result * 2 ^ 124} {m = 2 ^ 128} (omega (arith, c.from.ensures, c.number.ensures))) }
