use Rattle.std.proofs.Common.{◌≤◌, [], length, get_or, take, ◌+ℤ◌, sym, ap, ◌∙◌, arith, w64, SFits, rules}
use Rattle.std.proofs.lemmas.Int.{ints}
use Rattle.std.proofs.lemmas.List.{length_push}
use Rattle.std.proofs.lemmas.Slice.Zip.{zip_turn, zip_end}
use Rattle.limits.specs.Limits.{list_limit}
use Rattle.market.proofs.Steps.{next_fits, next_is, next_within}
use Rattle.clearing.specs.Seats.{forgoes_limit, seat, seats}
use Rattle.clearing.proofs.SeatLaws.{sum_more, sum_none, within_limit}
use Rattle.market.specs.Sums.{sum_over}
use Rattle.market.specs.declared.schedule.Schedule.{Schedule}
use Rattle.clearing.proofs.fitted.Fitted.sum.Goals as goal

pub loop-participant-init : goal.loop-participant-init
loop-participant-init g c = ((λ f answers. sym (sum_none g.K.Participant.kind f [] [])), (λ limit small. (omega (arith, ints), omega (arith, ints))))

pub overflow_add-sum : goal.overflow_add-sum
overflow_add-sum g c =
    let t = zip_turn c.args.self.now.participants.now c.args.self.now.schedules.now c.loop-participant.yielded c.into_iter-participant-iterator.result c.loop-participant.participant-iterator c.next.new.self _ (search rules) (search rules) c.loop-participant.yielded_by _ c.in-Some.is c.next.ensures.steps in
    let r = c.amount-sum.result in
    let fits : SFits w64 r = search rules in
    let few = c.args.self.now.few in
    next_fits forgoes_limit (length c.loop-participant.yielded) _ r fits (c.loop-participant.invariant.1 forgoes_limit c.requires.small) (c.requires.small _ r c.amount-sum.ensures) (omega arith)

pub loop-participant-preserved : goal.loop-participant-preserved
loop-participant-preserved g c =
    let t = zip_turn c.args.self.now.participants.now c.args.self.now.schedules.now c.loop-participant.yielded c.into_iter-participant-iterator.result c.loop-participant.participant-iterator c.next.new.self _ (search rules) (search rules) c.loop-participant.yielded_by _ c.in-Some.is c.next.ensures.steps in
    let r = c.amount-sum.result in
    let fits : SFits w64 r = search rules in
    let i = length c.loop-participant.yielded in
    let n = length_push c.loop-participant.yielded (c.in-Some.participant, c.in-Some.schedule) in
    let e = next_is forgoes_limit (length c.loop-participant.yielded) _ r fits (c.loop-participant.invariant.1 forgoes_limit c.requires.small) (c.requires.small _ r c.amount-sum.ensures) (omega arith) in (
      (λ f answers.
          let kind = g.K.Participant.kind in
          let ps = c.args.self.now.participants.now in
          let ss = c.args.self.now.schedules.now in
          let is = answers _ r c.amount-sum.ensures ∙ ap (λ x. f (seat (kind x) c.in-Some.schedule.now.megawatts)) (t.2 c.in-Some.participant.now) ∙ ap (λ (s : Schedule). f (seat (kind (get_or ps i c.in-Some.participant.now)) s.megawatts)) (t.3 c.in-Some.schedule.now) in
          e ∙ ap (λ z. z +ℤ r) (c.loop-participant.invariant.0 f answers) ∙ sym (sum_more kind f ps ss i c.in-Some.participant.now c.in-Some.schedule.now c.args.self.now.even t.0 r is) ∙ ap (λ k. sum_over f (seats kind (take k ps) (take k ss))) (sym n)),
      (λ limit small. let w = next_within limit (length c.loop-participant.yielded) _ r (c.loop-participant.invariant.1 limit small) (small _ r c.amount-sum.ensures) in rw (e, n) w),
    )

pub returns-clause-within : goal.returns-clause-within
returns-clause-within g c = λ limit small.
    let t = zip_end c.args.self.now.participants.now c.args.self.now.schedules.now c.loop-participant.yielded c.into_iter-participant-iterator.result c.loop-participant.participant-iterator c.next.new.self _ (search rules) (search rules) c.loop-participant.yielded_by c.in-None.is c.next.ensures.steps in
    let n : length c.loop-participant.yielded ≤ list_limit = omega (arith, c.args.self.now.few) in
    within_limit limit (length c.loop-participant.yielded) _ n (c.loop-participant.invariant.1 limit small)
