use Rattle.std.proofs.Common.{◌≡◌, ◌+◌, ◌-◌, ◌/◌, ◌%◌, ◌^◌, get_or, take, ap, ◌∙◌, arith, w64, SFits, rules}
use Rattle.std.proofs.lemmas.Nat.{mod_below, pow_pos}
use Rattle.std.proofs.lemmas.List.{take_all}
use Rattle.std.proofs.lemmas.Int.{to_z-of_z}
use Rattle.layout.specs.Fields.{figure_of}
use Rattle.layout.specs.Packing.{bits_of, figures_in, filled}
use Rattle.layout.proofs.RoundTrip.{bits_take_more, bits_take_le, unpack_step}
use Rattle.layout.proofs.Stored.{blank, proper_at, width_below}
use Rattle.layout.proofs.fields.Fields.unpack.Goals as goal

pub overflow_sub-left : goal.overflow_sub-left
overflow_sub-left c = omega (arith, c.args.self.laid.below, bits_take_more c.args.self.list.now c.loop-i.i c.loop-i-test.true, bits_take_le c.args.self.list.now (c.loop-i.i + 1))

pub bits-requires : goal.bits-requires
bits-requires c = record { below = omega arith; narrow = omega (arith, width_below (get_or c.args.self.list.now c.loop-i.i blank) (proper_at c.args.self.list.now c.loop-i.i c.args.self.laid.each c.loop-i-test.true)) }

pub figure-requires : goal.figure-requires
figure-requires c = record { proper = proper_at c.args.self.list.now c.loop-i.i c.args.self.laid.each c.loop-i-test.true; narrow = rw c.bits.ensures (mod_below _ _ (pow_pos _)) }

pub loop-i-preserved : goal.loop-i-preserved
loop-i-preserved c =
    let fs = c.args.self.list.now in
    let i = c.loop-i.i in
    let f = get_or fs i blank in
    let k : c.loop-i.left - f.width ≡ 124 - bits_of (take i fs) - f.width = omega arith in
    let more = bits_take_more fs i c.loop-i-test.true in
    let le = bits_take_le fs (i + 1) in
    let s : SFits w64 c.figure.result = search rules in (
      omega (arith, c.args.self.laid.below),
      unpack_step fs i c.args.word c.loop-i.figures _ c.loop-i-test.true c.args.self.laid.few c.loop-i.invariant.1
          (to_z-of_z _ _ s ∙ c.figure.ensures ∙ ap (figure_of f) (c.bits.ensures ∙ ap (λ j. c.args.word / 2 ^ j % 2 ^ f.width) k)),
    )

pub returns : goal.returns
returns c = c.loop-i.invariant.1 ∙ ap (λ gs. filled (figures_in gs 124 c.args.word)) (take_all c.loop-i.i c.args.self.list.now c.loop-i-test.false)
