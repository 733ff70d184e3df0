-- Sums of whole numbers: over the numbers below n, over the cells, over a list.
use Rattle.std.specs.Prelude.{◌≡◌, ℕ, zero, suc, ◌<◌, List, [], ◌∷◌, ℤ, pos, ◌+ℤ◌}
use Rattle.limits.specs.Limits.{zones, quarters}
use Rattle.market.specs.Tests.{Within}

-- f 0 + .. + f (n - 1)
unfoldable pub sum_below : ℕ → (ℕ → ℤ) → ℤ
sum_below zero f = pos 0
sum_below (suc n) f = sum_below n f +ℤ f n

-- a closure may be asked for each number below n
abbrev pub CanBelow : ℕ → (ℕ → Type 0) → Type 0
CanBelow n can = (k : ℕ) → k < n → can k

-- what it answers there, as a function of the number
abbrev pub AmountsBelow : ℕ → (ℕ → ℤ → Type 0) → (ℕ → ℤ) → Type 0
AmountsBelow n gives f = (k : ℕ) (r : ℤ) → k < n → gives k r → r ≡ f k

-- each answer there is within a limit
abbrev pub SmallBelow : ℕ → (ℕ → ℤ → Type 0) → ℕ → Type 0
SmallBelow n gives limit = (k : ℕ) (r : ℤ) → k < n → gives k r → Within limit r

-- the sum over the cells, one for each zone and quarter
unfoldable pub sum_cells : (ℕ → ℕ → ℤ) → ℤ
sum_cells f = sum_below zones (λ z. sum_below quarters (f z))

unfoldable pub sum_over : {X : Type 0} → (X → ℤ) → List X → ℤ
sum_over f [] = pos 0
sum_over f (x ∷ xs) = f x +ℤ sum_over f xs
