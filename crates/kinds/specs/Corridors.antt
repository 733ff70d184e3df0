-- Corridors: what figures they are made from, and what they mean.
use Rattle.std.specs.Prelude.{◌≡◌, ℕ, ◌<◌, Bool, true, cond, not, ◌&&◌, ◌≢◌, List, ℤ, pos, ◌-ℤ◌, neg_ℤ, ◌≤ℤ◌, ◌==◌, nat_le, nat_lt, slice_index}
use Rattle.limits.specs.Limits.{corridor_limit, quarters, zones}
use Rattle.market.specs.Tests.{every}
use Rattle.market.specs.Cells.{Table, is_cell}
use Rattle.market.specs.Kinds.{Kind, mw}
use Rattle.kinds.specs.Between.{between, best_between}
use Rattle.kinds.specs.declared.figures.CorridorFigures.{CorridorFigures}

-- the limits of the flow in a quarter
abbrev pub least_flow : CorridorFigures → ℕ → ℤ
least_flow f q = neg_ℤ (pos (slice_index f.backward q))

abbrev pub most_flow : CorridorFigures → ℕ → ℤ
most_flow f q = pos (slice_index f.forward q)

-- in every quarter the flow lies between its limits: at most the backward one back, and at most the forward one forward
abbrev pub FlowsWithin : CorridorFigures → List ℤ → Type 0
FlowsWithin f s = (q : ℕ) → q < quarters → (least_flow f q ≤ℤ mw s q) × (mw s q ≤ℤ most_flow f q)

-- the figures that a corridor is made from: two zones, not the same, and limits in range
abbrev pub limits_fit : List ℕ → Bool
limits_fit limits = every quarters (λ q. nat_le (slice_index limits q) corridor_limit)

abbrev pub corridor_fits : CorridorFigures → Bool
corridor_fits f =
    nat_lt f.from_zone zones && nat_lt f.to_zone zones && not (f.from_zone == f.to_zone)
    && limits_fit f.forward && limits_fit f.backward

-- what one MW of flow gains in a quarter
abbrev pub price_gap : CorridorFigures → Table → ℕ → ℤ
price_gap f p q = p f.to_zone q -ℤ p f.from_zone q

-- what a flow adds to a zone: it enters the to-zone and leaves the from-zone
abbrev pub flow_into : CorridorFigures → ℤ → ℕ → ℤ
flow_into f flow z = cond (z == f.to_zone) flow (pos 0) -ℤ cond (z == f.from_zone) flow (pos 0)

-- a corridor's flow lies between its limits and costs nothing
abbrev pub corridor : CorridorFigures → Kind
corridor f = record {
  strict = true;
  lawful = between (least_flow f) (most_flow f);
  cost = λ s. pos 0;
  effect = λ s z q. cond (between (least_flow f) (most_flow f) s && is_cell z q) (flow_into f (mw s q) z) (pos 0);
  best = best_between (price_gap f) (least_flow f) (most_flow f);
}

-- every lawful flow leaves a zone: the effect there is minus the flow
abbrev pub Leaves : Kind → ℕ → Type 0
Leaves k zone = (s : List ℤ) (q : ℕ) → q < quarters → k.lawful s ≡ true → k.effect s zone q ≡ neg_ℤ (mw s q)

-- every lawful flow enters a zone: the effect there is the flow
abbrev pub Enters : Kind → ℕ → Type 0
Enters k zone = (s : List ℤ) (q : ℕ) → q < quarters → k.lawful s ≡ true → k.effect s zone q ≡ mw s q

-- in every zone besides these two there is no effect
abbrev pub OnlyBetween : Kind → ℕ → ℕ → Type 0
OnlyBetween k from to = (s : List ℤ) (z q : ℕ) → z ≢ from → z ≢ to → k.effect s z q ≡ pos 0
