use Rattle.std.proofs.Common.{◌≡◌, ◌+ℤ◌, sym, ap, ◌∙◌, arith, w32, w64, SFits, rules}
use Rattle.std.proofs.lemmas.Int.{ints, to_z-of_z}
use Rattle.market.specs.Sums.{sum_below}
use Rattle.market.specs.Tests.{Within}
use Rattle.market.specs.Kinds.{mw}
use Rattle.market.proofs.Sums.{fits_within, sum_more, sum_none}
use Rattle.market.proofs.Steps.{next}
use Rattle.market.proofs.schedule.Schedule.total.Goals as goal

pub loop-megawatts-init : goal.loop-megawatts-init
loop-megawatts-init c = (sym (sum_none _), (omega (arith, ints), omega (arith, ints)))

pub loop-megawatts-preserved : goal.loop-megawatts-preserved
loop-megawatts-preserved c =
    let m = mw c.args.self.now.megawatts in
    let i = c.loop-megawatts.megawatts-index in
    let fits : SFits w64 c.from-sum.result = search rules in
    let own : SFits w32 (m i) = search rules in
    let is : c.from-sum.result ≡ m i = search (rules, to_z-of_z) in
    let small : Within 2147483648 c.from-sum.result = rw is (fits_within (m i) own) in
    next 2147483648 i _ c.from-sum.result fits c.loop-megawatts.invariant.1 small (omega arith) _ _ c.loop-megawatts.invariant.0 (sum_more i m ∙ ap (λ t. sum_below i m +ℤ t) (sym is))
