-- Ordinary and whole bids are sound, and no lawful schedule of theirs runs against the direction.
use Rattle.std.specs.Prelude.{◌≡◌, ℕ, ◌*◌, ◌<◌, Bool, true, false, cond, ◌&&◌, ◌≢◌, List, length, ℤ, pos, ◌*ℤ◌, neg_ℤ, ◌≤ℤ◌, ◌==◌, int_le, int_lt, nat_lt, refl}
use Rattle.std.proofs.Common.{sym, ap, ◌∙◌, inl, inr, arith}
use Rattle.std.proofs.Math.IntN.{*ℤ-zero}
use Rattle.std.specs.Int.{int_max}
use Rattle.std.proofs.lemmas.Int.{ints, clamps}
use Rattle.std.proofs.lemmas.Bool.{and_from, and_parts, and_right, cond_both, cond-false, cond-true, eq-eqb, lt-ltb, ltb-true, ne_eqb, or_cases, or_left, or_right}
use Rattle.limits.specs.Limits.{cost_limit, effect_limit, half_euros_limit, is_quantity, price_limit, quantity_limit, quarters, zones}
use Rattle.names.specs.declared.lists.Direction.{Direction}
use Rattle.names.specs.declared.lists.Direction.TheVariants.{Up, Down}
use Rattle.market.specs.Sums.{sum_below}
use Rattle.market.specs.Tests.{Tells, Within, same_ℤ}
use Rattle.market.specs.Cells.{InRange, Table, is_cell}
use Rattle.market.specs.Kinds.{Empty, Sound, empty, is_empty, mw, surplus, total_mw}
use Rattle.market.specs.Bids.{Along, RunsAlong}
use Rattle.market.proofs.Sums.{product_within, sum_same, sum_scale, sum_within, sum_zero}
use Rattle.market.proofs.Tests.{every_in, every_out, same_in, same_out, within_out}
use Rattle.kinds.specs.Between.{between, gain, margin_limit}
use Rattle.kinds.specs.Bids.{EmptyOrFull, RunsFull, bid_fits, bid_kind, ordinary_least, whole_least, cost_of, effect_of, empty_or_full, full, full_gain, is_full, least_volume, least_of, margin, most_volume, most_of, zone_and_price_fit, ordinary, ordinary_fits, price_of, quantities_fit, quantity, signed, whole, whole_fits}
use Rattle.kinds.specs.declared.figures.BidFigures.{BidFigures}
use Rattle.kinds.specs.BetweenLemmas.{better_between, better_length, better_reaches, better_schedule, between_in, between_out, empty-mw, in_range_lem, none_gains_more, out_of_range, schedule, schedule_length, schedule_mw}
use Rattle.kinds.specs.Cells.{cells_one, sum_difference}

-- ---- zone and price
module _ (f : BidFigures) (fits : zone_and_price_fit f ≡ true) where
  zone_below : f.zone < zones
  zone_below = ltb-true f.zone zones (and_parts _ _ fits).0

  price_within : Within price_limit (price_of f)
  price_within =
      let w : Within half_euros_limit f.half_euros = within_out half_euros_limit f.half_euros (and_parts (nat_lt f.zone zones) _ fits).1 in
      (omega (arith, ints), omega (arith, ints))

  -- what one MW gains, at any prices in range
  pub margin_within : (p : Table) (q : ℕ) → InRange p → q < quarters → Within margin_limit (margin f p q)
  margin_within p q range h =
      let own = price_within in
      let here = range f.zone q zone_below h in
      (omega (arith, ints), omega (arith, ints))

  -- what a schedule in the range of effects costs
  pub cost_of_within : (s : List ℤ) → ((q : ℕ) → q < quarters → Within effect_limit (mw s q)) → Within cost_limit (cost_of f s)
  cost_of_within s small =
      let w = product_within price_limit (quarters * effect_limit) (price_of f) (total_mw s) price_within (sum_within effect_limit quarters (mw s) small) in
      (omega (arith, ints), omega (arith, ints))

-- ---- bids of both kinds: lawful schedules keep to the range of effects, and the empty one is lawful
module _
    (mark : Bool) (is_lawful : List ℤ → Bool) (gained : Table → ℤ) (f : BidFigures) (fits : zone_and_price_fit f ≡ true)
    (lawful_within : (s : List ℤ) → is_lawful s ≡ true → (q : ℕ) → q < quarters → Within effect_limit (mw s q))
    (empty_lawful : is_lawful empty ≡ true) where
  effect_here : (s : List ℤ) (q : ℕ) → q < quarters → is_lawful s ≡ true → cond (is_lawful s) (effect_of f s f.zone q) (pos 0) ≡ mw s q
  effect_here s q h e =
      cond-true (is_lawful s) (effect_of f s f.zone q) (pos 0) e
      ∙ cond-true (is_cell f.zone q && f.zone == f.zone) (mw s q) (pos 0)
      (and_from (is_cell f.zone q) (f.zone == f.zone)
      (and_from (nat_lt f.zone zones) (nat_lt q quarters) (lt-ltb f.zone zones (zone_below f fits)) (lt-ltb q quarters h))
      (eq-eqb f.zone f.zone refl))

  none_where : (s : List ℤ) (z q : ℕ) → effect_of f s z q ≡ pos 0 → cond (is_lawful s) (effect_of f s z q) (pos 0) ≡ pos 0
  none_where s z q e = cond_both (is_lawful s) (effect_of f s z q) (pos 0) (λ t. t ≡ pos 0) (λ l. e) (λ l. refl)

  effect_elsewhere : (s : List ℤ) (z q : ℕ) → z ≢ f.zone → cond (is_lawful s) (effect_of f s z q) (pos 0) ≡ pos 0
  effect_elsewhere s z q ne =
      none_where s z q (cond-false (is_cell z q && z == f.zone) (mw s q) (pos 0) (and_right (is_cell z q) (z == f.zone) (ne_eqb z f.zone ne)))

  -- what a lawful schedule is worth: the margin times the MW, over the quarters
  surplus_is : (p : Table) (s : List ℤ) → is_lawful s ≡ true
      → surplus (bid_kind mark (λ _. is_lawful) (λ _. gained) f) p s ≡ sum_below quarters (λ q. margin f p q *ℤ mw s q)
  surplus_is p s e =
      let worth = λ (z q : ℕ). p z q *ℤ cond (is_lawful s) (effect_of f s z q) (pos 0) in
      let one = cells_one worth f.zone (zone_below f fits) (λ z q h ne. ap (λ t. p z q *ℤ t) (effect_elsewhere s z q ne) ∙ *ℤ-zero (p z q)) in
      let here = sum_same quarters (worth f.zone) (λ q. p f.zone q *ℤ mw s q) (λ q h. ap (λ t. p f.zone q *ℤ t) (effect_here s q h e)) in
      let split = sum_difference quarters (p f.zone) (λ q. price_of f) (mw s) in
      let paid = sum_scale quarters (price_of f) (mw s) in
      let cost = cond-true (is_lawful s) (cost_of f s) (pos 0) e in
      omega (arith, ints)

  effect_within : (s : List ℤ) (z q : ℕ) → Within effect_limit (cond (is_lawful s) (effect_of f s z q) (pos 0))
  effect_within s z q =
      cond_both (is_lawful s) (effect_of f s z q) (pos 0) (Within effect_limit)
      (λ e. cond_both (is_cell z q && z == f.zone) (mw s q) (pos 0) (Within effect_limit)
      (λ h. lawful_within s e q (ltb-true q quarters (and_parts _ _ (and_parts (is_cell z q) _ h).0).1))
      (λ h. (omega (arith, ints), omega (arith, ints))))
      (λ e. (omega (arith, ints), omega (arith, ints)))

  cost_within : (s : List ℤ) → Within cost_limit (cond (is_lawful s) (cost_of f s) (pos 0))
  cost_within s =
      cond_both (is_lawful s) (cost_of f s) (pos 0) (Within cost_limit)
      (λ e. cost_of_within f fits s (lawful_within s e))
      (λ e. (omega (arith, ints), omega (arith, ints)))

  no_cell : (s : List ℤ) (z q : ℕ) → ¬ ((z < zones) × (q < quarters)) → effect_of f s z q ≡ pos 0
  no_cell s z q n =
      cond_both (is_cell z q && z == f.zone) (mw s q) (pos 0) (λ t. t ≡ pos 0)
      (λ e.
      let cell = and_parts (nat_lt z zones) (nat_lt q quarters) (and_parts (is_cell z q) _ e).0 in
      absurd (n (ltb-true z zones cell.0, ltb-true q quarters cell.1)))
      (λ e. refl)

  bid_sound : ((p : Table) (s : List ℤ) → is_lawful s ≡ true → sum_below quarters (λ q. margin f p q *ℤ mw s q) ≤ℤ gained p)
      → ((p : Table) → (s : List ℤ) × (length s ≡ 4) × (is_lawful s ≡ true) × (sum_below quarters (λ q. margin f p q *ℤ mw s q) ≡ gained p))
      → Sound (bid_kind mark (λ _. is_lawful) (λ _. gained) f)
  bid_sound bound reached = record {
    empty_is_lawful = empty_lawful;
    empty_costs_nothing =
        cond-true (is_lawful empty) (cost_of f empty) (pos 0) empty_lawful
        ∙ ap (λ t. price_of f *ℤ t) (sum_zero quarters (mw empty) (λ q h. empty-mw q))
        ∙ *ℤ-zero (price_of f);
    empty_has_no_effect = λ z q.
        none_where empty z q (cond_both (is_cell z q && z == f.zone) (mw empty q) (pos 0) (λ t. t ≡ pos 0) (λ e. empty-mw q) (λ e. refl));
    unlawful_costs_nothing = λ s e. cond-false (is_lawful s) (cost_of f s) (pos 0) e;
    unlawful_has_no_effect = λ s z q e. cond-false (is_lawful s) (effect_of f s z q) (pos 0) e;
    no_effect_outside_cells = λ s z q n. none_where s z q (no_cell s z q n);
    effects_in_range = effect_within;
    costs_in_range = cost_within;
    none_is_better = λ p s w e. rw (surplus_is p s e, in_range_lem p (gained p) w) (bound p s e);
    best_is_reached = λ p w. (
        let found = reached p in
        (found.0, found.1, found.2, surplus_is p found.0 found.2 ∙ found.3 ∙ sym (in_range_lem p (gained p) w)));
    no_best_out_of_range = λ p n. out_of_range p (gained p) n;
  }

-- ---- quantities, whatever the least one is
pub quantity_below : (lowest : ℤ) (f : BidFigures) → quantities_fit lowest f ≡ true → (q : ℕ) → q < quarters → quantity f q ≤ℤ pos quantity_limit
quantity_below lowest f fits q h =
    let all = every_out quarters (λ k. int_le (quantity f k) (pos quantity_limit) && is_quantity lowest (quantity f k)) fits q h in
    let below = (and_parts (int_le (quantity f q) (pos quantity_limit)) _ all).0 in
    omega (arith, ints)

module _ (least : BidFigures → ℤ) (f : BidFigures) (fits : bid_fits least f ≡ true) where
  pub fitting_zone_and_price : zone_and_price_fit f ≡ true
  fitting_zone_and_price = (and_parts (zone_and_price_fit f) _ fits).0

  pub fitting_quantity_below : (q : ℕ) → q < quarters → quantity f q ≤ℤ pos quantity_limit
  fitting_quantity_below = quantity_below (least f) f (and_parts (zone_and_price_fit f) _ fits).1

-- the range from 0 to a quantity, and the full quantity
range_of : (d : Direction) (n : ℕ) → pos n ≤ℤ pos quantity_limit
    → (neg_ℤ (pos effect_limit) ≤ℤ least_of d (pos n)) × (least_of d (pos n) ≤ℤ pos 0) × (pos 0 ≤ℤ most_of d (pos n)) × (most_of d (pos n) ≤ℤ pos effect_limit)
range_of Up n h = (omega (arith, ints), omega (arith, ints), omega (arith, ints), omega (arith, ints))
range_of Down n h = (omega (arith, ints), omega (arith, ints), omega (arith, ints), omega (arith, ints))

full_in_range : (d : Direction) (n : ℕ) → pos n ≤ℤ pos quantity_limit → Within effect_limit (signed d (pos n))
full_in_range Up n h = (omega (arith, ints), omega (arith, ints))
full_in_range Down n h = (omega (arith, ints), omega (arith, ints))

-- nothing in that range runs against the direction
along_range : (d : Direction) (n : ℕ) (v : ℤ) → least_of d (pos n) ≤ℤ v → v ≤ℤ most_of d (pos n) → Along d v
along_range Up n v low high = low
along_range Down n v low high = high

along_full : (d : Direction) (n : ℕ) → Along d (signed d (pos n))
along_full Up n = omega (arith, ints)
along_full Down n = omega (arith, ints)

along_none : (d : Direction) → Along d (pos 0)
along_none Up = omega (arith, ints)
along_none Down = omega (arith, ints)

-- ---- the ordinary bid
pub ordinary_along : (f : BidFigures) → RunsAlong (ordinary f) f.direction
ordinary_along f s q h e = let i = between_out (least_volume f) (most_volume f) s e q h in along_range f.direction _ (mw s q) i.0 i.1

module _ (f : BidFigures) (fits : ordinary_fits f ≡ true) where
  ordinary_range : (q : ℕ) → q < quarters → (neg_ℤ (pos effect_limit) ≤ℤ least_volume f q) × (least_volume f q ≤ℤ pos 0) × (pos 0 ≤ℤ most_volume f q) × (most_volume f q ≤ℤ pos effect_limit)
  ordinary_range q h = range_of f.direction _ (fitting_quantity_below ordinary_least f fits q h)

  pub ordinary_within : (s : List ℤ) → between (least_volume f) (most_volume f) s ≡ true → (q : ℕ) → q < quarters → Within effect_limit (mw s q)
  ordinary_within s e q h =
      let i = between_out (least_volume f) (most_volume f) s e q h in
      let r = ordinary_range q h in
      (omega (arith, ints), omega (arith, ints))

  ordinary_empty : between (least_volume f) (most_volume f) empty ≡ true
  ordinary_empty = between_in (least_volume f) (most_volume f) empty (λ q h. let r = ordinary_range q h in let e = empty-mw q in (rw e r.1, rw e r.2))

  ordered : (q : ℕ) → q < quarters → least_volume f q ≤ℤ most_volume f q
  ordered q h = let r = ordinary_range q h in omega (arith, ints)

  pub ordinary_sound : Sound (ordinary f)
  ordinary_sound =
      bid_sound true (between (least_volume f) (most_volume f)) (λ p. sum_below quarters (gain (margin f p) (least_volume f) (most_volume f))) f (fitting_zone_and_price ordinary_least f fits) ordinary_within ordinary_empty
      (λ p. none_gains_more (margin f p) (least_volume f) (most_volume f))
      (λ p. (
        better_schedule (margin f p) (least_volume f) (most_volume f),
        better_length (margin f p) (least_volume f) (most_volume f),
        better_between (margin f p) (least_volume f) (most_volume f) ordered,
        better_reaches (margin f p) (least_volume f) (most_volume f),
      ))

-- ---- the whole bid
none_out : (s : List ℤ) → is_empty s ≡ true → (q : ℕ) → q < quarters → mw s q ≡ pos 0
none_out s e q h = same_out (mw s q) (pos 0) (every_out quarters (λ k. same_ℤ (mw s k) (pos 0)) e q h)

none_in : (s : List ℤ) → Empty s → is_empty s ≡ true
none_in s none = every_in quarters (λ k. same_ℤ (mw s k) (pos 0)) (λ q h. same_in (mw s q) (pos 0) (none q h))

module _ (f : BidFigures) where
  full_out : (s : List ℤ) → is_full f s ≡ true → (q : ℕ) → q < quarters → mw s q ≡ full f q
  full_out s e q h = same_out (mw s q) (full f q) (every_out quarters (λ k. same_ℤ (mw s k) (full f k)) e q h)

  full_in : (s : List ℤ) → RunsFull f s → is_full f s ≡ true
  full_in s all = every_in quarters (λ k. same_ℤ (mw s k) (full f k)) (λ q h. same_in (mw s q) (full f q) (all q h))

  whole_out : (s : List ℤ) → empty_or_full f s ≡ true → EmptyOrFull f s
  whole_out s e =
      elim (or_cases (is_empty s) (is_full f s) e) [
        | inl none ↦ inl (none_out s none)
        | inr all ↦ inr (full_out s all)
      ]

  whole_in : (s : List ℤ) → EmptyOrFull f s → empty_or_full f s ≡ true
  whole_in s (inl none) = or_left (is_empty s) (is_full f s) (none_in s none)
  whole_in s (inr all) = or_right (is_empty s) (is_full f s) (full_in s all)

  -- an answer that is the test tells whether the schedule runs nothing, or the full quantity in every quarter
  pub whole_tells : (s : List ℤ) (answer : Bool) → answer ≡ empty_or_full f s → Tells answer (EmptyOrFull f s)
  whole_tells s answer is = ((λ e. whole_out s (sym is ∙ e)), (λ runs. is ∙ whole_in s runs))

  whole_empty : empty_or_full f empty ≡ true
  whole_empty = whole_in empty (inl (λ q h. empty-mw q))

  whole_full : empty_or_full f (schedule (full f)) ≡ true
  whole_full = whole_in (schedule (full f)) (inr (schedule_mw (full f)))

  pub whole_along : RunsAlong (whole f) f.direction
  whole_along s q h e =
      elim (or_cases (is_empty s) (is_full f s) e) [
        | inl none ↦ rw (none_out s none q h) (along_none f.direction)
        | inr all ↦ rw (full_out s all q h) (along_full f.direction _)
      ]

  -- what the empty schedule gains, and one that runs the full quantity
  none_gained : (p : Table) (s : List ℤ) → ((q : ℕ) → q < quarters → mw s q ≡ pos 0) → sum_below quarters (λ q. margin f p q *ℤ mw s q) ≡ pos 0
  none_gained p s none = sum_zero quarters (λ q. margin f p q *ℤ mw s q) (λ q h. ap (λ t. margin f p q *ℤ t) (none q h) ∙ *ℤ-zero (margin f p q))

  full_gained : (p : Table) (s : List ℤ) → ((q : ℕ) → q < quarters → mw s q ≡ full f q) → sum_below quarters (λ q. margin f p q *ℤ mw s q) ≡ full_gain f p
  full_gained p s all = sum_same quarters (λ q. margin f p q *ℤ mw s q) (λ q. margin f p q *ℤ full f q) (λ q h. ap (λ t. margin f p q *ℤ t) (all q h))

  whole_bound : (p : Table) (s : List ℤ) → empty_or_full f s ≡ true → sum_below quarters (λ q. margin f p q *ℤ mw s q) ≤ℤ int_max (full_gain f p) (pos 0)
  whole_bound p s e =
      elim (or_cases (is_empty s) (is_full f s) e) [
        | inl none ↦ rw (none_gained p s (none_out s none)) (omega (arith, ints, clamps))
        | inr all ↦ rw (full_gained p s (full_out s all)) (omega (arith, ints, clamps))
      ]

  whole_reached : (p : Table)
      → (s : List ℤ) × (length s ≡ 4) × (empty_or_full f s ≡ true) × (sum_below quarters (λ q. margin f p q *ℤ mw s q) ≡ int_max (full_gain f p) (pos 0))
  whole_reached p =
      let Reached : ℤ → Type 0 = λ v. (s : List ℤ) × (length s ≡ 4) × (empty_or_full f s ≡ true) × (sum_below quarters (λ q. margin f p q *ℤ mw s q) ≡ v) in
      cond_both (int_lt (pos 0) (full_gain f p)) (full_gain f p) (pos 0) Reached
      (λ e. (schedule (full f), schedule_length (full f), whole_full, full_gained p (schedule (full f)) (schedule_mw (full f))))
      (λ e. (empty, refl, whole_empty, none_gained p empty (λ q h. empty-mw q)))

module _ (f : BidFigures) (fits : whole_fits f ≡ true) where
  pub whole_within : (s : List ℤ) → empty_or_full f s ≡ true → (q : ℕ) → q < quarters → Within effect_limit (mw s q)
  whole_within s e q h =
      elim (or_cases (is_empty s) (is_full f s) e) [
        | inl none ↦ rw (none_out s none q h) (omega (arith, ints), omega (arith, ints))
        | inr all ↦ rw (full_out f s all q h) (full_in_range f.direction _ (fitting_quantity_below whole_least f fits q h))
      ]

  pub whole_sound : Sound (whole f)
  whole_sound =
      bid_sound false (empty_or_full f) (λ p. int_max (full_gain f p) (pos 0)) f (fitting_zone_and_price whole_least f fits) whole_within (whole_empty f)
      (whole_bound f) (whole_reached f)
