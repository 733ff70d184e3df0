-- Schedules that lie between two limits in each quarter, and the most that one of them gains.
use Rattle.std.specs.Prelude.{ℕ, ◌*◌, Bool, cond, ◌&&◌, List, ℤ, pos, ◌*ℤ◌, int_le}
use Rattle.std.specs.Int.{int_max}
use Rattle.limits.specs.Limits.{effect_limit, price_limit, quarters}
use Rattle.market.specs.Sums.{sum_below}
use Rattle.market.specs.Tests.{every}
use Rattle.market.specs.Cells.{Table, in_range}
use Rattle.market.specs.Kinds.{mw}

-- in a quarter
abbrev pub inside : (ℕ → ℤ) → (ℕ → ℤ) → List ℤ → ℕ → Bool
inside least most s q = int_le (least q) (mw s q) && int_le (mw s q) (most q)

-- in every quarter
abbrev pub between : (ℕ → ℤ) → (ℕ → ℤ) → List ℤ → Bool
between least most s = every quarters (inside least most s)

-- what the better limit gains in a quarter, where one MW gains the margin
abbrev pub gain : (ℕ → ℤ) → (ℕ → ℤ) → (ℕ → ℤ) → ℕ → ℤ
gain margin least most q = int_max (margin q *ℤ least q) (margin q *ℤ most q)

-- how large a margin and a gain can be at prices in range
abbrev pub margin_limit : ℕ
margin_limit = 2 * price_limit

abbrev pub gain_limit : ℕ
gain_limit = margin_limit * effect_limit

-- a surplus at prices in range, and 0 where a price is out of its range
abbrev pub if_in_range : Table → ℤ → ℤ
if_in_range p surplus = cond (in_range p) surplus (pos 0)

-- what the better limit in each quarter gains
abbrev pub greatest_gain : (ℕ → ℤ) → (ℕ → ℤ) → (ℕ → ℤ) → ℤ
greatest_gain margin least most = sum_below quarters (gain margin least most)

-- the same at prices in range
abbrev pub best_between : (Table → ℕ → ℤ) → (ℕ → ℤ) → (ℕ → ℤ) → Table → ℤ
best_between margin least most p = if_in_range p (greatest_gain (margin p) least most)
