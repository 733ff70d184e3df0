-- Laws of sums, and of products.
use Rattle.std.proofs.Common.{◌≡◌, ℕ, zero, suc, ◌+◌, ◌*◌, ◌<◌, ◌≤◌, List, [], ◌∷◌, ◌++◌, map, ℤ, pos, negsuc, ◌+ℤ◌, ◌-ℤ◌, ◌*ℤ◌, neg_ℤ, nat_abs, ◌≤ℤ◌, sym, refl, ap, ◌∙◌, mul-le-mul, add-one, arith, w32, w64, SFits}
use borrow.Author.Differences.{up, down, sum_is_lem}
use lib.IntN.{+ℤ_idl, +ℤ_assoc, *ℤ-zero}
use Rattle.std.proofs.lemmas.Int.{ints}
use Rattle.std.specs.List.{AllByRecursion as All}
use Rattle.market.specs.Sums.{sum_below, sum_cells, sum_over}
use Rattle.market.specs.Tests.{Within}

abs_neg : (n : ℕ) → nat_abs (neg_ℤ (pos n)) ≡ n
abs_neg zero = refl
abs_neg (suc n) = refl

pub distrib : (a b c : ℤ) → a *ℤ (b +ℤ c) ≡ a *ℤ b +ℤ a *ℤ c
distrib a b c =
    let s = sum_is_lem b c in
    omega (arith, ints, ap (λ n. up a * n) s, ap (λ n. down a * n) s)

pub sum_add : (n : ℕ) (f g : ℕ → ℤ) → sum_below n (λ k. f k +ℤ g k) ≡ sum_below n f +ℤ sum_below n g
unfolding sum_below
sum_add zero f g = refl
sum_add (suc n) f g = let ih = sum_add n f g in omega (arith, ints)

pub sum_scale : (n : ℕ) (a : ℤ) (f : ℕ → ℤ) → sum_below n (λ k. a *ℤ f k) ≡ a *ℤ sum_below n f
unfolding sum_below
sum_scale zero a f = omega (arith, ints)
sum_scale (suc n) a f = let ih = sum_scale n a f in let d = distrib a (sum_below n f) (f n) in omega (arith, ints)

pub sum_same : (n : ℕ) (f g : ℕ → ℤ) → ((k : ℕ) → k < n → f k ≡ g k) → sum_below n f ≡ sum_below n g
unfolding sum_below
sum_same zero f g e = refl
sum_same (suc n) f g e = let ih = sum_same n f g (λ k h. e k (omega arith)) in let here = e n (omega arith) in omega (arith, ints)

pub over_append : {X : Type 0} (f : X → ℤ) (xs ys : List X) → sum_over f (xs ++ ys) ≡ sum_over f xs +ℤ sum_over f ys
unfolding sum_over
over_append f [] ys = sym (+ℤ_idl (sum_over f ys))
over_append f (x ∷ xs) ys = ap (λ t. f x +ℤ t) (over_append f xs ys) ∙ sym (+ℤ_assoc (f x) (sum_over f xs) (sum_over f ys))

pub sum_zero : (n : ℕ) (f : ℕ → ℤ) → ((k : ℕ) → k < n → f k ≡ pos 0) → sum_below n f ≡ pos 0
unfolding sum_below
sum_zero zero f e = refl
sum_zero (suc n) f e = let ih = sum_zero n f (λ k h. e k (omega arith)) in let here = e n (omega arith) in omega (arith, ints)

-- over the sum_cells
pub cells_same : (f g : ℕ → ℕ → ℤ) → ((z q : ℕ) → z < 12 → q < 4 → f z q ≡ g z q) → sum_cells f ≡ sum_cells g
unfolding sum_cells
cells_same f g e = sum_same 12 (λ z. sum_below 4 (f z)) (λ z. sum_below 4 (g z)) (λ z h. sum_same 4 (f z) (g z) (λ q j. e z q h j))

pub cells_add : (f g : ℕ → ℕ → ℤ) → sum_cells (λ z q. f z q +ℤ g z q) ≡ sum_cells f +ℤ sum_cells g
unfolding sum_cells
cells_add f g =
    sum_same 12 (λ z. sum_below 4 (λ q. f z q +ℤ g z q)) (λ z. sum_below 4 (f z) +ℤ sum_below 4 (g z)) (λ z h. sum_add 4 (f z) (g z))
    ∙ sum_add 12 (λ z. sum_below 4 (f z)) (λ z. sum_below 4 (g z))

pub cells_zero : (f : ℕ → ℕ → ℤ) → ((z q : ℕ) → z < 12 → q < 4 → f z q ≡ pos 0) → sum_cells f ≡ pos 0
unfolding sum_cells
cells_zero f e = sum_zero 12 (λ z. sum_below 4 (f z)) (λ z h. sum_zero 4 (f z) (λ q j. e z q h j))

-- over a list
pub over_minus : {X : Type 0} (f g : X → ℤ) (xs : List X) → sum_over (λ x. f x -ℤ g x) xs ≡ sum_over f xs -ℤ sum_over g xs
unfolding sum_over
over_minus f g [] = refl
over_minus f g (x ∷ xs) = let ih = over_minus f g xs in omega (arith, ints)

pub over_map : {X Y : Type 0} (f : Y → ℤ) (h : X → Y) (xs : List X) → sum_over (λ x. f (h x)) xs ≡ sum_over f (map h xs)
unfolding sum_over
over_map f h [] = refl
over_map f h (x ∷ xs) = ap (λ t. f (h x) +ℤ t) (over_map f h xs)

pub over_le : {X : Type 0} (f g : X → ℤ) (xs : List X) → All (λ x. f x ≤ℤ g x) xs → sum_over f xs ≤ℤ sum_over g xs
unfolding sum_over
over_le f g [] a = omega (arith, ints)
over_le f g (x ∷ xs) a = let ih = over_le f g xs a.1 in let here = a.0 in omega (arith, ints)

-- a sum over a list of sums over sum_cells is the sum over sum_cells of sums over the list
pub over_cells : {X : Type 0} (p : ℕ → ℕ → ℤ) (e : X → ℕ → ℕ → ℤ) (xs : List X) → sum_over (λ x. sum_cells (λ z q. p z q *ℤ e x z q)) xs ≡ sum_cells (λ z q. p z q *ℤ sum_over (λ x. e x z q) xs)
unfolding sum_over
over_cells p e [] = sym (cells_zero (λ z q. p z q *ℤ pos 0) (λ z q h j. *ℤ-zero (p z q)))
over_cells p e (x ∷ xs) =
    ap (λ t. sum_cells (λ z q. p z q *ℤ e x z q) +ℤ t) (over_cells p e xs)
    ∙ sym (cells_add (λ z q. p z q *ℤ e x z q) (λ z q. p z q *ℤ sum_over (λ x. e x z q) xs))
    ∙ cells_same (λ z q. p z q *ℤ e x z q +ℤ p z q *ℤ sum_over (λ x. e x z q) xs) (λ z q. p z q *ℤ (e x z q +ℤ sum_over (λ x. e x z q) xs)) (λ z q h j. sym (distrib (p z q) (e x z q) (sum_over (λ x. e x z q) xs)))

-- a loop's step
pub sum_more : (n : ℕ) (f : ℕ → ℤ) → sum_below (n + 1) f ≡ sum_below n f +ℤ f n
unfolding sum_below
sum_more n f = rw add-one

pub sum_none : (f : ℕ → ℤ) → sum_below 0 f ≡ pos 0
unfolding sum_below
sum_none f = refl

-- limits
within_abs : (m : ℕ) (a : ℤ) → Within m a → nat_abs a ≤ m
within_abs m (pos a) h = omega (arith, ints, h.1)
within_abs m (negsuc a) h = omega (arith, ints, h.0)

abs_within : (m : ℕ) (a : ℤ) → nat_abs a ≤ m → Within m a
abs_within m (pos a) h = omega (arith, ints)
abs_within m (negsuc a) h = omega (arith, ints)

abs_product : (a b : ℤ) → nat_abs (a *ℤ b) ≡ nat_abs a * nat_abs b
abs_product (pos a) (pos b) = refl
abs_product (pos a) (negsuc b) = abs_neg (a * suc b)
abs_product (negsuc a) (pos b) = abs_neg (suc a * b)
abs_product (negsuc a) (negsuc b) = refl

pub product_within : (m n : ℕ) (a b : ℤ) → Within m a → Within n b → Within (m * n) (a *ℤ b)
product_within m n a b h j = abs_within (m * n) (a *ℤ b) (rw abs_product (mul-le-mul (within_abs m a h) (within_abs n b j)))

pub sum_within : (m n : ℕ) (f : ℕ → ℤ) → ((k : ℕ) → k < n → Within m (f k)) → Within (n * m) (sum_below n f)
unfolding sum_below
sum_within m zero f h = omega (arith, ints)
sum_within m (suc n) f h = let ih = sum_within m n f (λ k j. h k (omega arith)) in let here = h n (omega arith) in omega (arith, ints)

pub cells_within : (m : ℕ) (f : ℕ → ℕ → ℤ) → ((z q : ℕ) → z < 12 → q < 4 → Within m (f z q)) → Within (12 * (4 * m)) (sum_cells f)
unfolding sum_cells
cells_within m f h = sum_within (4 * m) 12 (λ z. sum_below 4 (f z)) (λ z j. sum_within m 4 (f z) (λ q k. h z q j k))

-- a number of 32 bits, and a product of two
pub fits_within : (a : ℤ) → SFits w32 a → Within 2147483648 a
fits_within a f = (omega (arith, ints), omega (arith, ints))

pub product_fits : (a b : ℤ) → SFits w32 a → SFits w32 b → SFits w64 (a *ℤ b)
product_fits a b f g = let w = product_within 2147483648 2147483648 a b (fits_within a f) (fits_within b g) in omega (arith, ints)
