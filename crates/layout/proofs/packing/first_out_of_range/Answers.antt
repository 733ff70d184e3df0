use Rattle.std.proofs.Common.{ap, ◌∙◌}
use Rattle.layout.specs.Layout.{fields_of}
use Rattle.layout.specs.Packing.{first_out_of_range}
use Rattle.layout.proofs.RoundTrip.{first_is}
use Rattle.layout.proofs.packing.first_out_of_range.Goals as goal

pub returns : goal.returns
returns c =
    let e = c.first_bad.ensures ∙ ap (λ fs. first_out_of_range fs 0 c.args.figures.now) c.fields.ensures in
    record { answer = e; first = first_is (fields_of c.args.kind) 0 c.args.figures.now c.first_bad.result e }
