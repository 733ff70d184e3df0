-- Facts about every quarter or cell: figures of quarters and prices in range, also where there is no such quarter or
-- cell.
use Rattle.std.proofs.Common.{◌≡◌, ℕ, ◌<◌, true, List, get_or, arith, ◌≤◌, ℤ, pos, ◌≤ℤ◌, [], ltb, inl, inr}
use Rattle.std.specs.Prelude.{slice_index_or}
use Rattle.std.proofs.lemmas.Int.{ints}
use Rattle.std.proofs.lemmas.Bool.{and_parts, cases_Bool, cases_lt, cond-false, ltb-true}
use Rattle.limits.specs.Limits.{price_limit, quarters, zones}
use Rattle.market.specs.Cells.{in_range, is_cell, table}
use Rattle.market.specs.Tests.{Within}
use Rattle.market.proofs.Tests.{range_out}

-- the figure of a quarter, or 0 past the last one
pub figure_below : (limit : ℕ) (figures : List ℕ) (quarter : ℕ) (r : ℤ) → r ≡ pos (get_or figures quarter 0) → (quarters ≤ quarter → r ≡ pos 0) → (quarter < quarters → get_or figures quarter 0 ≤ limit) → (pos 0 ≤ℤ r) × (r ≤ℤ pos limit)
figure_below limit figures quarter r is past below =
    elim (cases_lt quarter quarters) [
      | inl h ↦ (let b = below h in (omega (arith, ints), omega (arith, ints)))
      | inr h ↦ (let z = past h in (omega (arith, ints), omega (arith, ints)))
    ]

-- the price of a cell, or 0 where there is no such cell
pub price_within : (rows : List (List ℤ)) → in_range (table rows) ≡ true → (z q : ℕ) → Within price_limit (table rows z q)
price_within rows range z q =
    elim (cases_Bool (is_cell z q)) [
      | inl e ↦ (let both = and_parts (ltb z zones) (ltb q quarters) e in range_out (table rows) range z q (ltb-true z zones both.0) (ltb-true q quarters both.1))
      | inr e ↦ (let none = cond-false (is_cell z q) (slice_index_or (slice_index_or rows z []) q (pos 0)) (pos 0) e in rw none (omega (arith, ints), omega (arith, ints)))
    ]
