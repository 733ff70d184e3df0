use Rattle.std.proofs.Common.{◌≡◌, ◌+◌, ◌-◌, ◌*◌, ◌%◌, ◌^◌, [], ◌∷◌, ◌++◌, length, inl, inr, refl, sym, ap, ◌∙◌, arith, w64, SFits, rules}
use Rattle.std.proofs.lemmas.List.{length-drop, length_push, nil_from_length}
use Rattle.std.proofs.lemmas.Int.{to_z-of_z}
use Rattle.layout.specs.Fields.{admits, stored_as}
use Rattle.layout.specs.Packing.{packed}
use Rattle.layout.proofs.RoundTrip.{ToPack, Turn, pack_step, packed_below, turn}
use Rattle.layout.proofs.fields.Fields.pack.Goals as goal
use Rattle.layout.proofs.fields.Fields.pack.Goals.{After-from, In-Some}

pub loop-field-init : goal.loop-field-init
loop-field-init c =
    let fs = c.args.self.list.now in
    let x = c.args.figures.now in
    let laid = c.args.self.laid in
    let e : c.into_iter-field-iterator.result.a.rest.now ≡ fs = search rules in
    let d : c.into_iter-field-iterator.result.b.rest.now ≡ x = search rules in
    let t : ToPack fs x x 0 124 = record { figures_left = refl; enough = omega (arith, laid.few); each = laid.each; in_range = c.requires; below = omega arith; room = laid.below } in
    record { to_pack = rw (e, d) t; sum = omega (arith, ap (λ gs. packed gs 124 0 x) e) }

-- this turn, of the field and the figure that the iterator gave
this : (c : In-Some) → Turn c.in-Some.field.now c.next.new.self.a.rest.now c.in-Some.figure.now c.next.new.self.b.rest.now c.args.figures.now (length c.loop-field.yielded) c.loop-field.left
this c = turn _ _ _ _ _ _ _ (rw (c.in-Some.ensures.steps.0, c.in-Some.ensures.steps.1) at c.loop-field.invariant.to_pack)

pub overflow_sub-left : goal.overflow_sub-left
overflow_sub-left c = (this (goal.at.overflow_sub-left c).In-Some).narrow

pub stored-requires-clause-proper : goal.stored-requires-clause-proper
stored-requires-clause-proper c = (this (goal.at.stored-requires-clause-proper c).In-Some).proper_here

pub stored-requires-clause-admitted : goal.stored-requires-clause-admitted
stored-requires-clause-admitted c =
    let s : SFits w64 c.in-Some.figure.now = search rules in
    ap (admits c.in-Some.field.now c.args.figures.now) (to_z-of_z _ _ s) ∙ (this (goal.at.stored-requires-clause-admitted c).In-Some).admitted

pub overflow_shl-word : goal.overflow_shl-word
overflow_shl-word c = omega (arith, c.loop-field.invariant.to_pack.below)

step : (c : After-from) → Turn c.in-Some.field.now c.next.new.self.a.rest.now c.in-Some.figure.now c.next.new.self.b.rest.now c.args.figures.now (length c.loop-field.yielded) c.loop-field.left → c.from.result * 2 ^ (c.loop-field.left - c.in-Some.field.now.width) % 2 ^ 128 + packed c.next.new.self.a.rest.now (c.loop-field.left - c.in-Some.field.now.width) (length c.loop-field.yielded + 1) c.args.figures.now ≡ packed c.loop-field.field-iterator.a.rest.now c.loop-field.left (length c.loop-field.yielded) c.args.figures.now
step c t =
    let f = c.in-Some.field.now in
    let s : SFits w64 c.in-Some.figure.now = search rules in
    pack_step f c.next.new.self.a.rest.now (length c.loop-field.yielded) c.loop-field.left c.args.figures.now c.from.result (rw c.from.ensures c.stored.ensures.narrow) t.narrow c.loop-field.invariant.to_pack.below
    (c.from.ensures ∙ c.stored.ensures.value ∙ ap (stored_as f) (to_z-of_z _ _ s ∙ sym t.here))
    ∙ ap (λ gs. packed gs c.loop-field.left (length c.loop-field.yielded) c.args.figures.now) (sym c.in-Some.ensures.steps.0)

pub overflow_add-word : goal.overflow_add-word
overflow_add-word c =
    let e = step (goal.at.overflow_add-word c).After-from (this (goal.at.overflow_add-word c).In-Some) in
    let b = packed_below c.args.self.list.now 124 0 c.args.figures.now c.args.self.laid.each c.requires c.args.self.laid.below in
    record { fits = omega (arith, c.loop-field.invariant.sum) }

pub loop-field-preserved : goal.loop-field-preserved
loop-field-preserved c =
    let t = this (goal.at.loop-field-preserved c).In-Some in
    let e = step (goal.at.loop-field-preserved c).After-from t in
    let more : length (c.loop-field.yielded ++ (c.in-Some.field, c.in-Some.figure) ∷ []) ≡ length c.loop-field.yielded + 1 = length_push c.loop-field.yielded (c.in-Some.field, c.in-Some.figure) in
    record { to_pack = rw more t.next; sum = rw more (omega (arith, c.loop-field.invariant.sum)) }

pub returns : goal.returns
returns c =
    let fs = c.loop-field.field-iterator.a.rest.now in
    let n = length c.loop-field.yielded in
    let t = c.loop-field.invariant.to_pack in
    let none : length fs ≡ 0 =
    elim c.in-None.ensures.steps [
      | inl h ↦ h.1.0
      | inr h ↦ omega (arith, h.1.0, t.enough, ap length t.figures_left, length-drop n c.args.figures.now)
    ] in
    let e : packed fs c.loop-field.left n c.args.figures.now ≡ 0 = ap (λ gs. packed gs c.loop-field.left n c.args.figures.now) (nil_from_length _ none) in
    omega (arith, c.loop-field.invariant.sum)
