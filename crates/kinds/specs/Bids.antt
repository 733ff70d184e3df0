-- Ordinary and whole bids: what figures they are made from, and what they mean.
use Rattle.std.specs.Prelude.{◌≡◌, ℕ, ◌<◌, Bool, true, false, cond, ◌&&◌, ◌||◌, ◌⊎◌, List, ℤ, pos, ◌-ℤ◌, ◌*ℤ◌, neg_ℤ, ◌≤ℤ◌, ◌==◌, int_le, nat_lt, slice_index}
use Rattle.std.specs.Int.{int_max}
use Rattle.limits.specs.Limits.{cents_in_half_euro, half_euros_limit, is_quantity, least_ordinary, least_quantity, quantity_limit, quarters, zones}
use Rattle.names.specs.declared.lists.Direction.{Direction}
use Rattle.names.specs.declared.lists.Direction.TheVariants.{Up, Down}
use Rattle.market.specs.Sums.{sum_below}
use Rattle.market.specs.Tests.{every, same_ℤ, within}
use Rattle.market.specs.Cells.{Table, is_cell}
use Rattle.market.specs.Kinds.{Empty, Kind, is_empty, mw, total_mw}
use Rattle.kinds.specs.Between.{between, greatest_gain, if_in_range}
use Rattle.kinds.specs.declared.figures.BidFigures.{BidFigures}

-- the price in cents per MWh
abbrev pub price_of : BidFigures → ℤ
price_of f = pos cents_in_half_euro *ℤ f.half_euros

-- the quantity of a quarter
abbrev pub quantity : BidFigures → ℕ → ℤ
quantity f q = pos (slice_index f.quantities q)

-- the figures that a bid is made from: a zone, a price in range, and quantities of 0 or from the least one up to the limit
abbrev pub zone_and_price_fit : BidFigures → Bool
zone_and_price_fit f = nat_lt f.zone zones && within half_euros_limit f.half_euros

abbrev pub quantities_fit : ℤ → BidFigures → Bool
quantities_fit least f = every quarters (λ q. int_le (quantity f q) (pos quantity_limit) && is_quantity least (quantity f q))

abbrev pub bid_fits : (BidFigures → ℤ) → BidFigures → Bool
bid_fits least f = zone_and_price_fit f && quantities_fit (least f) f

-- the least quantity of an ordinary bid is that of its zone, and of a whole bid one number
abbrev pub ordinary_least : BidFigures → ℤ
ordinary_least f = least_ordinary (pos f.zone)

abbrev pub whole_least : BidFigures → ℤ
whole_least f = least_quantity

abbrev pub ordinary_fits : BidFigures → Bool
ordinary_fits = bid_fits ordinary_least

abbrev pub whole_fits : BidFigures → Bool
whole_fits = bid_fits whole_least

-- a volume of so many MW in a direction, and the ends of the range from 0 to it
abbrev pub signed : Direction → ℤ → ℤ
signed Up n = n
signed Down n = neg_ℤ n

abbrev pub least_of : Direction → ℤ → ℤ
least_of Up n = pos 0
least_of Down n = neg_ℤ n

abbrev pub most_of : Direction → ℤ → ℤ
most_of Up n = n
most_of Down n = pos 0

abbrev pub least_volume : BidFigures → ℕ → ℤ
least_volume f q = least_of f.direction (quantity f q)

abbrev pub most_volume : BidFigures → ℕ → ℤ
most_volume f q = most_of f.direction (quantity f q)

abbrev pub full : BidFigures → ℕ → ℤ
full f q = signed f.direction (quantity f q)

-- what one MW gains in a quarter
abbrev pub margin : BidFigures → Table → ℕ → ℤ
margin f p q = p f.zone q -ℤ price_of f

-- the schedule in the bid's own zone, and 0 elsewhere
abbrev pub effect_of : BidFigures → List ℤ → Table
effect_of f s z q = cond (is_cell z q && z == f.zone) (mw s q) (pos 0)

-- the price times the sum of the schedule
abbrev pub cost_of : BidFigures → List ℤ → ℤ
cost_of f s = price_of f *ℤ total_mw s

-- a bid, by its mark, its lawful schedules and what the best of these gains at prices in range
abbrev pub bid_kind : Bool → (BidFigures → List ℤ → Bool) → (BidFigures → Table → ℤ) → BidFigures → Kind
bid_kind mark is_lawful gained f = record {
  strict = mark;
  lawful = is_lawful f;
  cost = λ s. cond (is_lawful f s) (cost_of f s) (pos 0);
  effect = λ s z q. cond (is_lawful f s) (effect_of f s z q) (pos 0);
  best = λ p. if_in_range p (gained f p);
}

-- in every quarter it runs from 0 up to the quantity, or down to minus the quantity
abbrev pub RunsPart : BidFigures → List ℤ → Type 0
RunsPart f s = (q : ℕ) → q < quarters → (least_volume f q ≤ℤ mw s q) × (mw s q ≤ℤ most_volume f q)

-- the same, as a test
abbrev pub runs_part : BidFigures → List ℤ → Bool
runs_part f = between (least_volume f) (most_volume f)

-- what the better end of that range gains, in each quarter
abbrev pub part_gain : BidFigures → Table → ℤ
part_gain f p = greatest_gain (margin f p) (least_volume f) (most_volume f)

-- an ordinary bid runs, in each quarter, from 0 up to the quantity, or down to minus the quantity
abbrev pub ordinary : BidFigures → Kind
ordinary = bid_kind true runs_part part_gain

-- in every quarter it runs the full quantity, up or down
abbrev pub RunsFull : BidFigures → List ℤ → Type 0
RunsFull f s = (q : ℕ) → q < quarters → mw s q ≡ full f q

-- it runs nothing in any quarter, or the full quantity in every quarter
abbrev pub EmptyOrFull : BidFigures → List ℤ → Type 0
EmptyOrFull f s = Empty s ⊎ RunsFull f s

-- the same, as tests
abbrev pub is_full : BidFigures → List ℤ → Bool
is_full f s = every quarters (λ q. same_ℤ (mw s q) (full f q))

abbrev pub empty_or_full : BidFigures → List ℤ → Bool
empty_or_full f s = is_empty s || is_full f s

-- what the full quantity gains
abbrev pub full_gain : BidFigures → Table → ℤ
full_gain f p = sum_below quarters (λ q. margin f p q *ℤ full f q)

-- what the better of nothing and the full quantity gains
abbrev pub whole_gain : BidFigures → Table → ℤ
whole_gain f p = int_max (full_gain f p) (pos 0)

-- a whole bid runs not at all, or with the full quantity in every quarter
abbrev pub whole : BidFigures → Kind
whole = bid_kind false empty_or_full whole_gain
