-- Sums with one term, sums of which one is at most the other, and sums of products with a difference.
use Rattle.std.specs.Prelude.{◌≡◌, ℕ, zero, suc, ◌<◌, ◌≤◌, ◌≢◌, ℤ, pos, ◌+ℤ◌, ◌-ℤ◌, ◌*ℤ◌, ◌≤ℤ◌}
use Rattle.std.proofs.Common.{sym, ap, ◌∙◌, inl, inr, arith, eq-or-lt_of_le}
use Rattle.std.proofs.Math.IntN.{*ℤ_comm}
use Rattle.std.proofs.lemmas.Int.{ints}
use Rattle.limits.specs.Limits.{zones, quarters}
use Rattle.market.specs.Sums.{sum_below, sum_cells}
use Rattle.market.proofs.Sums.{distrib, sum_add, sum_same, sum_zero}

sum_one : (n : ℕ) (f : ℕ → ℤ) (j : ℕ) → j < n → ((k : ℕ) → k < n → k ≢ j → f k ≡ pos 0) → sum_below n f ≡ f j
unfolding sum_below
sum_one zero f j h z = absurd (omega arith)
sum_one (suc n) f j h z =
    let below : j ≤ n = omega arith in
    elim (eq-or-lt_of_le below) [
      | inl e ↦ (let rest = sum_zero n f (λ k l. z k (omega arith) (omega arith)) in let top = ap f e in omega (arith, ints))
      | inr l ↦ (let ih = sum_one n f j l (λ k m ne. z k (omega arith) ne) in let top = z n (omega arith) (omega arith) in omega (arith, ints))
    ]

-- where only one zone counts
pub cells_one : (f : ℕ → ℕ → ℤ) (zone : ℕ) → zone < zones → ((z q : ℕ) → q < quarters → z ≢ zone → f z q ≡ pos 0) → sum_cells f ≡ sum_below quarters (f zone)
unfolding sum_cells
cells_one f zone h e = sum_one zones (λ z. sum_below quarters (f z)) zone h (λ z l ne. sum_zero quarters (f z) (λ q j. e z q j ne))

pub sum-le : (n : ℕ) (f g : ℕ → ℤ) → ((k : ℕ) → k < n → f k ≤ℤ g k) → sum_below n f ≤ℤ sum_below n g
unfolding sum_below
sum-le zero f g h = omega (arith, ints)
sum-le (suc n) f g h = let ih = sum-le n f g (λ k l. h k (omega arith)) in let here = h n (omega arith) in omega (arith, ints)

-- a product with a difference
distrib_left : (a b c : ℤ) → (a +ℤ b) *ℤ c ≡ a *ℤ c +ℤ b *ℤ c
distrib_left a b c =
    let d = distrib c a b in
    let x = *ℤ_comm (a +ℤ b) c in
    let y = *ℤ_comm a c in
    let z = *ℤ_comm b c in
    omega (arith, ints)

restored : (a b : ℤ) → (a -ℤ b) +ℤ b ≡ a
restored a b = omega (arith, ints)

difference_left : (a b c : ℤ) → a *ℤ c ≡ (a -ℤ b) *ℤ c +ℤ b *ℤ c
difference_left a b c = ap (λ t. t *ℤ c) (sym (restored a b)) ∙ distrib_left (a -ℤ b) b c

pub difference_right : (a b c : ℤ) → c *ℤ a ≡ c *ℤ (a -ℤ b) +ℤ c *ℤ b
difference_right a b c = ap (λ t. c *ℤ t) (sym (restored a b)) ∙ distrib c (a -ℤ b) b

pub sum_difference : (n : ℕ) (a b f : ℕ → ℤ) → sum_below n (λ k. a k *ℤ f k) ≡ sum_below n (λ k. (a k -ℤ b k) *ℤ f k) +ℤ sum_below n (λ k. b k *ℤ f k)
sum_difference n a b f =
    sum_same n (λ k. a k *ℤ f k) (λ k. (a k -ℤ b k) *ℤ f k +ℤ b k *ℤ f k) (λ k h. difference_left (a k) (b k) (f k))
    ∙ sum_add n (λ k. (a k -ℤ b k) *ℤ f k) (λ k. b k *ℤ f k)
