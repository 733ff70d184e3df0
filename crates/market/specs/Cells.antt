-- A cell is one zone in one quarter; prices and needs are tables with a figure for each cell.
use Rattle.std.specs.Prelude.{◌≡◌, ℕ, ◌<◌, Bool, cond, ◌&&◌, List, [], ℤ, pos, Some, None, Option, nat_lt, slice_index_or}
use Rattle.limits.specs.Limits.{zones, quarters, price_limit}
use Rattle.market.specs.Tests.{Within, within, every}
use Rattle.market.specs.Searches.{first_some}
use Rattle.market.specs.declared.cells.Cell.{Cell}

abbrev pub is_cell : ℕ → ℕ → Bool
is_cell z q = nat_lt z zones && nat_lt q quarters

-- a figure for each zone and quarter
abbrev pub Table : Type 0
Table = ℕ → ℕ → ℤ

-- the figures of an array of zones by quarters, and 0 where there is no cell
abbrev pub table : List (List ℤ) → Table
table rows z q = cond (is_cell z q) (slice_index_or (slice_index_or rows z []) q (pos 0)) (pos 0)

-- every price is in its range
abbrev pub InRange : Table → Type 0
InRange p = (z q : ℕ) → z < zones → q < quarters → Within price_limit (p z q)

-- the same, as tests
abbrev pub price_fits : Table → ℕ → ℕ → Bool
price_fits p z q = within price_limit (p z q)

abbrev pub in_range : Table → Bool
in_range p = every zones (λ z. every quarters (price_fits p z))

-- a number, where it fails a test
abbrev pub failing : (ℕ → Bool) → ℕ → Option ℕ
failing t n = cond (t n) None (Some n)

-- the cell of a quarter, where one was found in the zone
abbrev pub in_zone : ℕ → Option ℕ → Option Cell
in_zone z None = None
in_zone z (Some q) = Some (record { zone = z; quarter = q })

-- the first cell of a zone that fails a test
abbrev pub first_in_zone : (ℕ → ℕ → Bool) → ℕ → Option Cell
first_in_zone t z = in_zone z (first_some quarters (failing (t z)))

-- the first cell that fails a test, by zone and then by quarter
abbrev pub first_cell : (ℕ → ℕ → Bool) → Option Cell
first_cell t = first_some zones (first_in_zone t)

-- what a test of cells answers, as a function of zone and quarter
abbrev pub Answers : (Cell → Bool → Type 0) → (ℕ → ℕ → Bool) → Type 0
Answers gives t = (c : Cell) (b : Bool) → gives c b → b ≡ t c.zone c.quarter

-- a cell is the first of which P does not hold: P holds in every zone before, and in every quarter before it in its zone
pub record FirstCell (P : ℕ → ℕ → Type 0) (c : Cell) : Type 0 where
  pub zone : c.zone < zones
  pub quarter : c.quarter < quarters
  pub broken : ¬ (P c.zone c.quarter)
  pub zones_before : (z q : ℕ) → z < c.zone → q < quarters → P z q
  pub quarters_before : (q : ℕ) → q < c.quarter → P c.zone q

-- P holds in every cell, or the answer is the first where it does not
abbrev pub EveryCellOrFirst : (ℕ → ℕ → Type 0) → Option Cell → Type 0
EveryCellOrFirst P None = (z q : ℕ) → z < zones → q < quarters → P z q
EveryCellOrFirst P (Some c) = FirstCell P c
