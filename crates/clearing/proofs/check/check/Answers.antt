use Rattle.std.proofs.Common.{◌≡◌, Ok, Err, sym, ap, ◌∙◌, rules}
use Rattle.std.specs.List.{AllByRecursion}
use Rattle.market.specs.Cells.{table}
use Rattle.market.specs.Kinds.{Sound}
use Rattle.clearing.specs.Seats.{joined, kinds_of, lists_of}
use Rattle.clearing.specs.Verdict.{priced, ruled, sized}
use Rattle.clearing.proofs.Exactness.{checked, then_err, then_ok}
use Rattle.clearing.proofs.SeatLaws.{all_sound, sound_joined}
use Rattle.clearing.proofs.check.check.Given as given
use Rattle.clearing.proofs.check.check.Goals as goal
use Rattle.clearing.specs.declared.outcome.Lists.{Lists}

-- the kinds of all participants are sound
all_kinds : (g : given.Over) (lists : Lists g.row.A.Denot g.row.B.Denot g.row.C.Denot) → AllByRecursion Sound (kinds_of (joined (lists_of g.A.Participant.kind g.B.Participant.kind g.C.Participant.kind lists)))
all_kinds g lists = sound_joined (lists_of g.A.Participant.kind g.B.Participant.kind g.C.Participant.kind lists) (
  all_sound g.A.Participant.kind g.met.A.Participant.sound lists.ordinary.participants.now lists.ordinary.schedules.now,
  (
    all_sound g.B.Participant.kind g.met.B.Participant.sound lists.whole.participants.now lists.whole.schedules.now,
    (all_sound g.C.Participant.kind g.met.C.Participant.sound lists.corridors.participants.now lists.corridors.schedules.now, tt),
  ),
)

pub returns-in_err-fitted : goal.returns-in_err-fitted
returns-in_err-fitted g c =
    let lists = lists_of g.A.Participant.kind g.B.Participant.kind g.C.Participant.kind c.args.lists.now in
    let told : c.from_residual.result ≡ Err c.in_err-fitted.field-0.0 = search rules in
    let refused : sized lists ≡ Err c.in_err-fitted.field-0.0 = c.in_err-fitted.ensures in
    checked (table c.args.needs.now.megawatts) (table c.args.prices.now.cents) lists _ (told ∙ sym (then_err (sized lists) _ _ refused)) (all_kinds g c.args.lists.now)

pub returns-in_err-check_prices : goal.returns-in_err-check_prices
returns-in_err-check_prices g c =
    let p = table c.args.prices.now.cents in
    let lists = lists_of g.A.Participant.kind g.B.Participant.kind g.C.Participant.kind c.args.lists.now in
    let told : c.from_residual-in_err-check_prices.result ≡ Err c.in_err-check_prices.field-0.0 = search rules in
    let refused : priced p ≡ Err c.in_err-check_prices.field-0.0 = sym c.in_err-check_prices.ensures in
    let fit : sized lists ≡ Ok tt = c.in_ok-fitted.ensures.0 in
    checked (table c.args.needs.now.megawatts) p lists _ (told ∙ sym (then_ok (sized lists) _ fit ∙ then_err (priced p) _ _ refused)) (all_kinds g c.args.lists.now)

pub returns : goal.returns
returns g c =
    let need = table c.args.needs.now.megawatts in
    let p = table c.args.prices.now.cents in
    let lists = lists_of g.A.Participant.kind g.B.Participant.kind g.C.Participant.kind c.args.lists.now in
    let fit : sized lists ≡ Ok tt = c.in_ok-fitted.ensures.0 in
    let fair : priced p ≡ Ok tt = sym c.in_ok-check_prices.ensures in
    checked need p lists _ (c.apply_rules.ensures ∙ ap (ruled need p) c.in_ok-fitted.ensures.1 ∙ sym (then_ok (sized lists) _ fit ∙ then_ok (priced p) _ fair)) (all_kinds g c.args.lists.now)
