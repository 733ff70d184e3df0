-- Corridors are sound.
use Rattle.std.specs.Prelude.{◌≡◌, ℕ, ◌<◌, ◌≤◌, true, cond, ◌&&◌, List, ℤ, pos, ◌+ℤ◌, ◌*ℤ◌, ◌≤ℤ◌, ◌==◌, nat_le, nat_lt, slice_index, refl}
use Rattle.std.proofs.Common.{sym, ap, ◌∙◌, arith}
use Rattle.std.proofs.Math.IntN.{*ℤ-zero}
use Rattle.std.proofs.lemmas.Int.{ints}
use Rattle.std.proofs.lemmas.Bool.{and_from, and_left, and_parts, cond_both, cond-false, cond-true, eq-eqb, leb-true, lt-ltb, ltb-true, ne_eqb}
use Rattle.limits.specs.Limits.{corridor_limit, effect_limit, quarters, zones}
use Rattle.market.specs.Sums.{sum_below, sum_cells}
use Rattle.market.specs.Tests.{Within}
use Rattle.market.specs.Cells.{InRange, Table, is_cell}
use Rattle.market.specs.Kinds.{Sound, empty, mw, surplus}
use Rattle.market.proofs.Sums.{cells_add, cells_same, sum_same}
use Rattle.market.proofs.Tests.{every_out}
use Rattle.kinds.specs.Between.{between, gain, margin_limit}
use Rattle.kinds.specs.Corridors.{corridor, corridor_fits, flow_into, least_flow, limits_fit, most_flow, price_gap}
use Rattle.kinds.specs.declared.figures.CorridorFigures.{CorridorFigures}
use Rattle.kinds.specs.BetweenLemmas.{better_between, better_length, better_reaches, better_schedule, between_in, between_out, empty-mw, in_range_lem, none_gains_more, out_of_range}
use Rattle.kinds.specs.Cells.{cells_one, difference_right, sum_difference}

limit_below : (limits : List ℕ) → limits_fit limits ≡ true → (q : ℕ) → q < quarters → slice_index limits q ≤ corridor_limit
limit_below limits fits q h = leb-true (slice_index limits q) corridor_limit (every_out quarters (λ k. nat_le (slice_index limits k) corridor_limit) fits q h)

-- volumes in one zone, and 0 elsewhere
abbrev in_zone : ℕ → ℤ → ℕ → ℤ
in_zone zone v z = cond (z == zone) v (pos 0)

worth_in_zone : (p : Table) (v : ℕ → ℤ) (zone : ℕ) → zone < zones → sum_cells (λ z q. p z q *ℤ in_zone zone (v q) z) ≡ sum_below quarters (λ q. p zone q *ℤ v q)
worth_in_zone p v zone h =
    cells_one (λ z q. p z q *ℤ in_zone zone (v q) z) zone h (λ z q j ne. ap (λ t. p z q *ℤ t) (cond-false (z == zone) (v q) (pos 0) (ne_eqb z zone ne)) ∙ *ℤ-zero (p z q))
    ∙ sum_same quarters (λ q. p zone q *ℤ in_zone zone (v q) zone) (λ q. p zone q *ℤ v q) (λ q j. ap (λ t. p zone q *ℤ t) (cond-true (zone == zone) (v q) (pos 0) (eq-eqb zone zone refl)))

in_zone_within : (zone z : ℕ) (v : ℤ) → Within corridor_limit v → Within corridor_limit (in_zone zone v z)
in_zone_within zone z v w = cond_both (z == zone) v (pos 0) (Within corridor_limit) (λ e. w) (λ e. (omega (arith, ints), omega (arith, ints)))

none_in_zone : (zone z : ℕ) → in_zone zone (pos 0) z ≡ pos 0
none_in_zone zone z = cond_both (z == zone) (pos 0) (pos 0) (λ t. t ≡ pos 0) (λ e. refl) (λ e. refl)

module _ (f : CorridorFigures) (fits : corridor_fits f ≡ true) where
  -- ---- zones and limits
  from_below : f.from_zone < zones
  from_below = ltb-true f.from_zone zones (and_parts _ _ (and_parts _ _ (and_parts _ _ (and_parts _ _ fits).0).0).0).0

  to_below : f.to_zone < zones
  to_below = ltb-true f.to_zone zones (and_parts _ _ (and_parts _ _ (and_parts _ _ (and_parts _ _ fits).0).0).0).1

  pub forward_below : (q : ℕ) → q < quarters → slice_index f.forward q ≤ corridor_limit
  forward_below = limit_below f.forward (and_parts _ _ (and_parts _ _ fits).0).1

  pub backward_below : (q : ℕ) → q < quarters → slice_index f.backward q ≤ corridor_limit
  backward_below = limit_below f.backward (and_parts _ _ fits).1

  -- what one MW of flow gains, at any prices in range
  pub gap_within : (p : Table) (q : ℕ) → InRange p → q < quarters → Within margin_limit (price_gap f p q)
  gap_within p q range h =
      let there = range f.to_zone q to_below h in
      let here = range f.from_zone q from_below h in
      (omega (arith, ints), omega (arith, ints))

  -- ---- flows
  pub flow_within : (s : List ℤ) → between (least_flow f) (most_flow f) s ≡ true → (q : ℕ) → q < quarters → Within corridor_limit (mw s q)
  flow_within s e q h =
      let i = between_out (least_flow f) (most_flow f) s e q h in
      let most = forward_below q h in
      let least = backward_below q h in
      (omega (arith, ints), omega (arith, ints))

  corridor_empty : between (least_flow f) (most_flow f) empty ≡ true
  corridor_empty = between_in (least_flow f) (most_flow f) empty (λ q h. let e = empty-mw q in (rw e (omega (arith, ints)), rw e (omega (arith, ints))))

  ordered : (q : ℕ) → q < quarters → least_flow f q ≤ℤ most_flow f q
  ordered q h = omega (arith, ints)

  -- ---- the effect
  effect_in_cell : (s : List ℤ) (z q : ℕ) → between (least_flow f) (most_flow f) s ≡ true → z < zones → q < quarters → (corridor f).effect s z q ≡ flow_into f (mw s q) z
  effect_in_cell s z q e h j =
      cond-true (between (least_flow f) (most_flow f) s && is_cell z q) (flow_into f (mw s q) z) (pos 0)
      (and_from (between (least_flow f) (most_flow f) s) (is_cell z q) e (and_from (nat_lt z zones) (nat_lt q quarters) (lt-ltb z zones h) (lt-ltb q quarters j)))

  no_flow : (z : ℕ) → flow_into f (pos 0) z ≡ pos 0
  no_flow z =
      let entered = none_in_zone f.to_zone z in
      let left = none_in_zone f.from_zone z in
      omega (arith, ints)

  effect_within : (s : List ℤ) (z q : ℕ) → Within effect_limit ((corridor f).effect s z q)
  effect_within s z q =
      cond_both (between (least_flow f) (most_flow f) s && is_cell z q) (flow_into f (mw s q) z) (pos 0) (Within effect_limit)
      (λ e.
      let both = and_parts (between (least_flow f) (most_flow f) s) (is_cell z q) e in
      let flow = flow_within s both.0 q (ltb-true q quarters (and_parts (nat_lt z zones) (nat_lt q quarters) both.1).1) in
      let entered = in_zone_within f.to_zone z (mw s q) flow in
      let left = in_zone_within f.from_zone z (mw s q) flow in
      (omega (arith, ints), omega (arith, ints)))
      (λ e. (omega (arith, ints), omega (arith, ints)))

  no_cell : (s : List ℤ) (z q : ℕ) → ¬ ((z < zones) × (q < quarters)) → (corridor f).effect s z q ≡ pos 0
  no_cell s z q n =
      cond_both (between (least_flow f) (most_flow f) s && is_cell z q) (flow_into f (mw s q) z) (pos 0) (λ t. t ≡ pos 0)
      (λ e.
      let cell = and_parts (nat_lt z zones) (nat_lt q quarters) (and_parts (between (least_flow f) (most_flow f) s) (is_cell z q) e).1 in
      absurd (n (ltb-true z zones cell.0, ltb-true q quarters cell.1)))
      (λ e. refl)

  -- what a lawful flow is worth: what enters the to-zone less what leaves the from-zone
  surplus_is : (p : Table) (s : List ℤ) → between (least_flow f) (most_flow f) s ≡ true → surplus (corridor f) p s ≡ sum_below quarters (λ q. price_gap f p q *ℤ mw s q)
  surplus_is p s e =
      let worth = λ (z q : ℕ). p z q *ℤ (corridor f).effect s z q in
      let entered = λ (z q : ℕ). p z q *ℤ in_zone f.to_zone (mw s q) z in
      let left = λ (z q : ℕ). p z q *ℤ in_zone f.from_zone (mw s q) z in
      let flows = cells_same entered (λ z q. worth z q +ℤ left z q) (λ z q h j.
      difference_right (in_zone f.to_zone (mw s q) z) (in_zone f.from_zone (mw s q) z) (p z q)
      ∙ ap (λ t. p z q *ℤ t +ℤ left z q) (sym (effect_in_cell s z q e h j))) in
      let both = cells_add worth left in
      let there = worth_in_zone p (mw s) f.to_zone to_below in
      let here = worth_in_zone p (mw s) f.from_zone from_below in
      let gap = sum_difference quarters (p f.to_zone) (p f.from_zone) (mw s) in
      omega (arith, ints)

  abbrev gained : Table → ℤ
  gained p = sum_below quarters (gain (price_gap f p) (least_flow f) (most_flow f))

  pub corridor_sound : Sound (corridor f)
  corridor_sound = record {
    empty_is_lawful = corridor_empty;
    empty_costs_nothing = refl;
    empty_has_no_effect = λ z q.
        cond_both (between (least_flow f) (most_flow f) empty && is_cell z q) (flow_into f (mw empty q) z) (pos 0) (λ t. t ≡ pos 0)
        (λ e. ap (λ v. flow_into f v z) (empty-mw q) ∙ no_flow z)
        (λ e. refl);
    unlawful_costs_nothing = λ s e. refl;
    unlawful_has_no_effect = λ s z q e.
        cond-false (between (least_flow f) (most_flow f) s && is_cell z q) (flow_into f (mw s q) z) (pos 0) (and_left (between (least_flow f) (most_flow f) s) (is_cell z q) e);
    no_effect_outside_cells = no_cell;
    effects_in_range = effect_within;
    costs_in_range = λ s. (omega (arith, ints), omega (arith, ints));
    none_is_better = λ p s w e. rw (surplus_is p s e, in_range_lem p (gained p) w) (none_gains_more (price_gap f p) (least_flow f) (most_flow f) s e);
    best_is_reached = λ p w. (
        let s = better_schedule (price_gap f p) (least_flow f) (most_flow f) in
        let lawful = better_between (price_gap f p) (least_flow f) (most_flow f) ordered in
        let reached = better_reaches (price_gap f p) (least_flow f) (most_flow f) in
        (s, better_length (price_gap f p) (least_flow f) (most_flow f), lawful, surplus_is p s lawful ∙ reached ∙ sym (in_range_lem p (gained p) w)));
    no_best_out_of_range = λ p n. out_of_range p (gained p) n;
  }
