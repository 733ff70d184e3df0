use Rattle.layout.specs.Layout.{fields_of}
use Rattle.values.proofs.Filled.{bounded}
use Rattle.values.proofs.value.Record.from_figures.Goals as goal

pub of_bounded-requires : goal.of_bounded-requires
of_bounded-requires c = bounded (fields_of c.args.kind) 0 c.args.figures.now c.in-None.ensures.first
