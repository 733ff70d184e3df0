use Rattle.std.proofs.Common.{◌≡◌, ◌+◌, ◌∷◌, drop, sym, ap, ◌∙◌}
use Rattle.std.proofs.lemmas.List.{at_drop_more, at_drop_all}
use Rattle.std.proofs.lemmas.Bool.{cond-true, cond-false, eq-eqb, ne_eqb}
use Rattle.names.specs.Numbered.{numbered}
use Rattle.names.proofs.numbered.case_numbered.Goals as goal

pub returns-then-from-n : goal.returns-then-from-n
returns-then-from-n g c =
    let N = g.T.Numbered.number in
    let x = c.case-item.result in
    let e : numbered N c.args.n (drop c.loop-case.case-index c.args.cases.now) ≡ numbered N c.args.n (x ∷ drop (c.loop-case.case-index + 1) c.args.cases.now) =
    at_drop_more (λ xs. numbered N c.args.n xs) c.args.cases.now c.loop-case.case-index x c.loop-case-test.true ∙ ap (λ y. numbered N c.args.n (y ∷ drop (c.loop-case.case-index + 1) c.args.cases.now)) (sym c.case-item.is) in
    sym (sym c.loop-case.invariant ∙ e ∙ cond-true _ _ _ (eq-eqb _ _ (sym c.number.ensures ∙ sym c.from.ensures ∙ c.if-from-n.true)))

pub loop-case-preserved : goal.loop-case-preserved
loop-case-preserved g c =
    let N = g.T.Numbered.number in
    let x = c.case-item.result in
    let e : numbered N c.args.n (drop c.loop-case.case-index c.args.cases.now) ≡ numbered N c.args.n (x ∷ drop (c.loop-case.case-index + 1) c.args.cases.now) =
    at_drop_more (λ xs. numbered N c.args.n xs) c.args.cases.now c.loop-case.case-index x c.loop-case-test.true ∙ ap (λ y. numbered N c.args.n (y ∷ drop (c.loop-case.case-index + 1) c.args.cases.now)) (sym c.case-item.is) in
    sym (e ∙ cond-false _ _ _ (ne_eqb _ _ (λ h. c.if-from-n.false (c.from.ensures ∙ c.number.ensures ∙ h)))) ∙ c.loop-case.invariant

pub returns : goal.returns
returns g c = sym (at_drop_all (λ xs. numbered g.T.Numbered.number c.args.n xs) c.args.cases.now c.loop-case.case-index c.loop-case-test.false) ∙ c.loop-case.invariant
