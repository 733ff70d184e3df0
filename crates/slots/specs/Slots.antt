-- A slot answers as the participant made from its figures, and has only the empty schedule where none is made.
use Rattle.std.specs.Prelude.{◌≡◌, Bool, cond, List, ℤ, pos, Some, None, Option}
use Rattle.market.specs.Cells.{Table}
use Rattle.market.specs.Kinds.{Kind, is_empty}
use Rattle.kinds.specs.Made.{MadeFrom}

-- what is made from figures that may be absent, and may not fit
abbrev pub made : {F : Type 0} → (F → Bool) → (F → Kind) → Option F → Option Kind
made fits kind None = None
made fits kind (Some figures) = cond (fits figures) (Some (kind figures)) None

-- the four answers of what was made, or of none
abbrev pub lawful_as : Option Kind → List ℤ → Bool
lawful_as None s = is_empty s
lawful_as (Some k) s = k.lawful s

abbrev pub cost_as : Option Kind → List ℤ → ℤ
cost_as None s = pos 0
cost_as (Some k) s = k.cost s

abbrev pub effect_as : Option Kind → List ℤ → Table
effect_as None s z q = pos 0
effect_as (Some k) s z q = k.effect s z q

abbrev pub best_as : Option Kind → Table → ℤ
best_as None p = pos 0
best_as (Some k) p = k.best p

-- a participant with this mark that answers as what was made, or as none
abbrev pub slot_kind : Bool → Option Kind → Kind
slot_kind mark one = record {
  strict = mark;
  lawful = lawful_as one;
  cost = cost_as one;
  effect = effect_as one;
  best = best_as one;
}

-- a slot of a kind: its mark, the figures that fit, and what is made from them
abbrev pub slot : {F : Type 0} → Bool → (F → Bool) → (F → Kind) → Option F → Kind
slot mark fits kind figures = slot_kind mark (made fits kind figures)

-- one is made from the slot's figures where there are any, and none where the number is absent
abbrev pub Made : {F X : Type 0} → (F → Bool) → (X → F) → Option F → Option X → Type 0
Made fits figures_of None made = made ≡ None
Made fits figures_of (Some figures) made = MadeFrom fits figures_of figures made
