-- A slot keeps the laws of a kind, whether one is made from it or not.
use Rattle.std.specs.Prelude.{◌≡◌, Bool, true, List, ℤ, pos, ◌*ℤ◌, Some, None, Option, refl}
use Rattle.std.proofs.Common.{arith}
use Rattle.std.proofs.Math.IntN.{*ℤ-zero}
use Rattle.std.proofs.lemmas.Int.{ints}
use Rattle.std.proofs.lemmas.Bool.{cond_both}
use Rattle.limits.specs.Limits.{quarters}
use Rattle.market.specs.Tests.{same_ℤ}
use Rattle.market.specs.Cells.{Table}
use Rattle.market.specs.Kinds.{Kind, Sound, empty, mw, surplus}
use Rattle.market.proofs.Sums.{cells_zero}
use Rattle.market.proofs.Tests.{every_in, same_in}
use Rattle.kinds.specs.BetweenLemmas.{empty-mw}
use Rattle.slots.specs.Slots.{slot, slot_kind}

-- where none is made, no schedule gains or loses anything
nothing_gained : (mark : Bool) (p : Table) (s : List ℤ) → surplus (slot_kind mark None) p s ≡ pos 0
nothing_gained mark p s = let zero = cells_zero (λ z q. p z q *ℤ pos 0) (λ z q h j. *ℤ-zero (p z q)) in omega (arith, ints)

empty_alone : (mark : Bool) → (slot_kind mark None).lawful empty ≡ true
empty_alone mark = every_in quarters (λ q. same_ℤ (mw empty q) (pos 0)) (λ q h. same_in (mw empty q) (pos 0) (empty-mw q))

none_sound : (mark : Bool) → Sound (slot_kind mark None)
none_sound mark = record {
  empty_is_lawful = empty_alone mark;
  empty_costs_nothing = refl;
  empty_has_no_effect = λ z q. refl;
  unlawful_costs_nothing = λ s e. refl;
  unlawful_has_no_effect = λ s z q e. refl;
  no_effect_outside_cells = λ s z q n. refl;
  effects_in_range = λ s z q. (omega (arith, ints), omega (arith, ints));
  costs_in_range = λ s. (omega (arith, ints), omega (arith, ints));
  none_is_better = λ p s w e. rw (nothing_gained mark p s) (omega (arith, ints));
  best_is_reached = λ p w. (empty, refl, empty_alone mark, nothing_gained mark p empty);
  no_best_out_of_range = λ p n. refl;
}

-- where one is made, the slot answers as that one
one_sound : (mark : Bool) (k : Kind) → Sound k → Sound (slot_kind mark (Some k))
one_sound mark k sound = record {
  empty_is_lawful = sound.empty_is_lawful;
  empty_costs_nothing = sound.empty_costs_nothing;
  empty_has_no_effect = sound.empty_has_no_effect;
  unlawful_costs_nothing = sound.unlawful_costs_nothing;
  unlawful_has_no_effect = sound.unlawful_has_no_effect;
  no_effect_outside_cells = sound.no_effect_outside_cells;
  effects_in_range = sound.effects_in_range;
  costs_in_range = sound.costs_in_range;
  none_is_better = sound.none_is_better;
  best_is_reached = sound.best_is_reached;
  no_best_out_of_range = sound.no_best_out_of_range;
}

pub slot_sound : {F : Type 0} (mark : Bool) (fits : F → Bool) (kind : F → Kind) → ((f : F) → fits f ≡ true → Sound (kind f)) → (figures : Option F) → Sound (slot mark fits kind figures)
slot_sound mark fits kind sound None = none_sound mark
slot_sound mark fits kind sound (Some f) =
    cond_both (fits f) (Some (kind f)) None (λ (o : Option Kind). Sound (slot_kind mark o)) (λ e. one_sound mark (kind f) (sound f e)) (λ e. none_sound mark)
