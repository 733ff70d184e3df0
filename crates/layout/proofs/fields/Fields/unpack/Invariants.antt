use Rattle.std.proofs.Common.{◌≡◌, ◌+◌, take}
use Rattle.layout.specs.Packing.{bits_of, figures_in, filled}
use Rattle.layout.proofs.fields.Fields.unpack.Given as goal

abbrev pub invariant-loop-i : goal.invariant-loop-i
invariant-loop-i l = (l.left + bits_of (take l.i l.self.list.now) ≡ 124) × (l.figures ≡ filled (figures_in (take l.i l.self.list.now) 124 l.word))
