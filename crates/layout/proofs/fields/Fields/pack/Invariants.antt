use Rattle.std.proofs.Common.{◌≡◌, ◌+◌, length}
use Rattle.layout.specs.Packing.{packed}
use Rattle.layout.proofs.RoundTrip.{ToPack}
use Rattle.layout.proofs.fields.Fields.pack.Given as goal

abbrev pub invariant-loop-field : goal.invariant-loop-field
invariant-loop-field l = record {
  to_pack : ToPack l.field-iterator.a.rest.now l.field-iterator.b.rest.now l.figures (length l.yielded) l.left;
  sum : l.word + packed l.field-iterator.a.rest.now l.left (length l.yielded) l.figures ≡ packed l.self.list.now 124 0 l.figures;
}
