use Rattle.std.proofs.Common.{◌≡◌, ◌*◌, ◌+ℤ◌, sym, ap, ◌∙◌, arith, w64, SFits, to_z, rules}
use Rattle.std.proofs.lemmas.Int.{ints}
use Rattle.market.specs.Kinds.{zone_worth_limit}
use Rattle.market.specs.Sums.{sum_below}
use Rattle.market.proofs.Sums.{sum_more, sum_none}
use Rattle.market.proofs.Steps.{next_fits, next_is, next_within}
use Rattle.market.proofs.summing.sum_below.Goals as goal

pub loop-number-init : goal.loop-number-init
loop-number-init g c = ((λ f answers. sym (sum_none f)), (λ limit small. (omega (arith, ints), omega (arith, ints))))

pub overflow_add-sum : goal.overflow_add-sum
overflow_add-sum g c =
    let k = c.loop-number.number in
    let r = c.amount-sum.result in
    let fits : SFits w64 r = search rules in
    next_fits zone_worth_limit k _ r fits (c.loop-number.invariant.1 zone_worth_limit c.requires.small) (c.requires.small k r c.loop-number-test.true c.amount-sum.ensures) (omega arith)

pub loop-number-preserved : goal.loop-number-preserved
loop-number-preserved g c =
    let k = c.loop-number.number in
    let r = c.amount-sum.result in
    let fits : SFits w64 r = search rules in
    let below = c.loop-number-test.true in
    let is = next_is zone_worth_limit k (to_z w64 c.loop-number.sum-bits) r fits (c.loop-number.invariant.1 zone_worth_limit c.requires.small) (c.requires.small k r below c.amount-sum.ensures) (omega arith) in (
      (λ f answers. is ∙ ap (λ z. z +ℤ r) (c.loop-number.invariant.0 f answers) ∙ ap (λ t. sum_below k f +ℤ t) (answers k r below c.amount-sum.ensures) ∙ sym (sum_more k f)),
      (λ limit small. rw is (next_within limit k _ r (c.loop-number.invariant.1 limit small) (small k r below c.amount-sum.ensures))),
    )

pub returns : goal.returns
returns g c =
    let all : c.loop-number.number ≡ c.args.n = omega arith in
    record {
      value = λ f answers. c.loop-number.invariant.0 f answers ∙ ap (λ n. sum_below n f) all;
      within = λ limit small. (let w = c.loop-number.invariant.1 limit small in (omega (arith, ints, ap (λ n. limit * n) all), omega (arith, ints, ap (λ n. limit * n) all)));
    }
