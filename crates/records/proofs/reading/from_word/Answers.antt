use Rattle.std.proofs.Common.{rules, false, true, ◌≡◌, Some, None, Option, Ok, Err, Result, sym, refl, ap, ◌∙◌}
use Rattle.std.specs.Option.{ok_or}
use Rattle.std.specs.Result.{MatchResult, is_ok}
use Rattle.std.proofs.lemmas.Bool.{false≢true}
use Rattle.faults.specs.Refusals.{record_refusal, told}
use Rattle.faults.specs.declared.RecordFault.TheVariants.{OutOfRange}
use Rattle.records.proofs.Verdicts.{known, read_in_range, read_out_of_range}
use Rattle.records.proofs.reading.from_word.Goals as goal

none_err : {X F : Type 0} (o : Option X) (e f : F) → o ≡ None → Err f ≡ ok_or o e → f ≡ e
none_err None e f n h = cc
none_err (Some x) e f n h = cc

err_of : {X E : Type 0} (r : Result X E) (P : X → Type 0) (Q : E → Type 0) → false ≡ is_ok r → MatchResult r P Q → (e : E) × (r ≡ Err e) × Q e
err_of (Err e) P Q v m = (e, refl, m)
err_of (Ok x) P Q v m = absurd (false≢true v)

ok_of : {X E : Type 0} (F : Type 0) (r : Result X E) (x : X) (Q : E → Type 0) → true ≡ is_ok r → MatchResult r (λ y. ◌≡◌ {A = Result X F} (Ok x) (Ok y)) Q → Ok x ≡ r
ok_of F (Ok y) x Q v m = cc
ok_of F (Err e) x Q v m = absurd (false≢true (sym v))

pub returns-in_err-kind : goal.returns-in_err-kind
returns-in_err-kind c =
    let a = c.in_err-kind.ensures in
    let t : told record_refusal c.from_residual.result ≡ Err (record_refusal c.in_err-kind.field-0.0) = search rules in
    t ∙ ap (λ x. Err (record_refusal x)) (none_err _ _ _ a.ok_part a.value) ∙ sym (known c.args.position c.args.word _ c.ranges.word.fits (sym a.ok_part ∙ c.from_number.ensures.answer))

pub returns-in_err-record : goal.returns-in_err-record
returns-in_err-record c =
    let t : told record_refusal c.from_residual-in_err-record.result ≡ Err (record_refusal c.in_err-record.field-0.0) = search rules in
    let q = err_of _ _ _ c.in_err-record.ensures.variant c.in_err-record.ensures.cases in
    let h = q.2 in
    let f : c.in_err-record.field-0.0 ≡ OutOfRange c.args.position q.0.field = search rules in
    t ∙ ap (λ x. Err (record_refusal x)) f ∙ sym (read_out_of_range c.args.position c.args.word c.in_ok-kind.kind c.figures_in-figures.result c.ranges.word.fits (sym c.in_ok-kind.ensures.ok_part ∙ c.from_number.ensures.answer) c.figures_in-figures.ensures q.0 (sym q.1 ∙ c.from_figures.ensures))

pub returns : goal.returns
returns c =
    let v = c.in_ok-record.record in
    let q = ok_of _ _ v _ c.in_ok-record.ensures.variant c.in_ok-record.ensures.cases in
    c.if_padded.ensures
    ∙ sym (read_in_range c.args.position c.args.word c.in_ok-kind.kind c.figures_in-figures.result c.ranges.word.fits (sym c.in_ok-kind.ensures.ok_part ∙ c.from_number.ensures.answer) c.figures_in-figures.ensures v (q ∙ c.from_figures.ensures))
