-- Tests over the numbers below n, tests of whole numbers, and the range of prices as a test.
use Rattle.std.proofs.Common.{◌≡◌, ℕ, zero, suc, ◌+◌, ◌<◌, Bool, true, false, List, length, get_or, ℤ, pos, neg_ℤ, sym, refl, ap, ◌∙◌, inl, inr, add-one, arith, zero-add, below_more}
use Rattle.std.specs.List.{list_all, enumerate_from}
use lib.Signed.{le_z}
use Rattle.std.proofs.lemmas.Int.{ints}
use Rattle.std.proofs.lemmas.Bool.{and_parts, and_from, both_ways, cases_Bool}
use Rattle.std.proofs.lemmas.List.Recursion.{and_at, and_from_places}
use Rattle.std.proofs.lemmas.List.FromFn.{length-enumerate_from, get_or-enumerate_from}
use Rattle.limits.specs.Limits.{zones, quarters, price_limit}
use Rattle.market.specs.Tests.{Within, every, same_ℤ, within}
use Rattle.market.specs.Cells.{InRange, Table, in_range, price_fits}

-- ---- every number below n passes
pub every_out : (n : ℕ) (t : ℕ → Bool) → every n t ≡ true → (k : ℕ) → k < n → t k ≡ true
unfolding every
every_out zero t e k h = absurd (omega arith)
every_out (suc n) t e k h = below_more (λ k. t k ≡ true) n (every_out n t (and_parts (every n t) (t n) e).0) (and_parts (every n t) (t n) e).1 k (omega arith)

pub every_in : (n : ℕ) (t : ℕ → Bool) → ((k : ℕ) → k < n → t k ≡ true) → every n t ≡ true
unfolding every
every_in zero t h = refl
every_in (suc n) t h = and_from (every n t) (t n) (every_in n t (λ k l. h k (omega arith))) (h n (omega arith))

pub every_fails : (n : ℕ) (t : ℕ → Bool) (k : ℕ) → k < n → t k ≡ false → every n t ≡ false
every_fails n t k h e =
    elim (cases_Bool (every n t)) [
      | inl all ↦ absurd (both_ways (t k) e (every_out n t all k h))
      | inr fails ↦ fails
    ]

-- none below 0, and one number more
pub every_none : (t : ℕ → Bool) → every 0 t ≡ true
unfolding every
every_none t = refl

pub every_more : (n : ℕ) (t : ℕ → Bool) → every n t ≡ true → t n ≡ true → every (n + 1) t ≡ true
unfolding every
every_more n t e here = rw add-one (and_from (every n t) (t n) e here)

-- ---- whole numbers
pub within_out : (m : ℕ) (a : ℤ) → within m a ≡ true → Within m a
within_out m a e =
    let both = and_parts (le_z (neg_ℤ (pos m)) a) (le_z a (pos m)) e in
    let low = both.0 in
    let high = both.1 in
    (omega (arith, ints), omega (arith, ints))

pub within_in : (m : ℕ) (a : ℤ) → Within m a → within m a ≡ true
within_in m a w = and_from (le_z (neg_ℤ (pos m)) a) (le_z a (pos m)) (sym (omega (arith, ints))) (sym (omega (arith, ints)))

pub within_fails : (m : ℕ) (a : ℤ) → within m a ≡ false → ¬ (Within m a)
within_fails m a e w = both_ways (within m a) e (within_in m a w)

pub same_out : (a b : ℤ) → same_ℤ a b ≡ true → a ≡ b
same_out a b e =
    let both = and_parts (le_z a b) (le_z b a) e in
    let low = both.0 in
    let high = both.1 in
    omega (arith, ints)

pub same_in : (a b : ℤ) → a ≡ b → same_ℤ a b ≡ true
same_in a b e = and_from (le_z a b) (le_z b a) (sym (omega (arith, ints))) (sym (omega (arith, ints)))

pub same_fails : (a b : ℤ) → same_ℤ a b ≡ false → ¬ (a ≡ b)
same_fails a b e h = both_ways (same_ℤ a b) e (same_in a b h)

pub other_fails : (a b : ℤ) → ¬ (a ≡ b) → same_ℤ a b ≡ false
other_fails a b n =
    elim (cases_Bool (same_ℤ a b)) [
      | inl same ↦ absurd (n (same_out a b same))
      | inr fails ↦ fails
    ]

-- ---- prices in range
pub range_out : (p : Table) → in_range p ≡ true → InRange p
range_out p e z q h j = within_out price_limit (p z q) (every_out quarters (price_fits p z) (every_out zones (λ z. every quarters (price_fits p z)) e z h) q j)

pub range_in : (p : Table) → InRange p → in_range p ≡ true
range_in p w = every_in zones (λ z. every quarters (price_fits p z)) (λ z h. every_in quarters (price_fits p z) (λ q j. within_in price_limit (p z q) (w z q h j)))

-- ---- every item of a list passes, as a test of every number below its length
pub same_tests : (a b : Bool) → (a ≡ true → b ≡ true) → (b ≡ true → a ≡ true) → a ≡ b
same_tests true true there back = refl
same_tests true false there back = sym (there refl)
same_tests false true there back = back refl
same_tests false false there back = refl

pub every_item : {X : Type 0} (test : X → Bool) (n : ℕ) (xs : List X) (d : X) → length xs ≡ n → list_all test xs ≡ every n (λ q. test (get_or xs q d))
every_item test n xs d e =
    same_tests _ _
    (λ all. every_in n (λ q. test (get_or xs q d)) (λ q h. and_at (list_all test) test refl (λ _ _. refl) xs q d (omega arith) all))
    (λ all. and_from_places (list_all test) test refl (λ _ _. refl) xs d (λ q h. every_out n (λ q. test (get_or xs q d)) all q (omega arith)))

-- every item of a list passes a test that also takes its number
pub every_numbered : {X : Type 0} (test : ℕ → X → Bool) (n : ℕ) (xs : List X) (d : X) → length xs ≡ n → list_all (λ (p : ℕ × X). test p.0 p.1) (enumerate_from 0 xs) ≡ every n (λ q. test q (get_or xs q d))
every_numbered test n xs d e =
    let all_pairs = every_item (λ (p : ℕ × _). test p.0 p.1) n (enumerate_from 0 xs) (0, d) (length-enumerate_from 0 xs ∙ e) in
    let here : (q : ℕ) → q < n → test (get_or (enumerate_from 0 xs) q (0, d)).0 (get_or (enumerate_from 0 xs) q (0, d)).1 ≡ test q (get_or xs q d) =
    λ q h. ap (λ (p : ℕ × _). test p.0 p.1) (get_or-enumerate_from 0 xs q (0, d) (omega arith)) ∙ ap (λ k. test k (get_or xs q d)) (zero-add q) in
    all_pairs
    ∙ same_tests _ _
    (λ all. every_in n (λ q. test q (get_or xs q d)) (λ q h. sym (here q h) ∙ every_out n _ all q h))
    (λ all. every_in n (λ q. test (get_or (enumerate_from 0 xs) q (0, d)).0 (get_or (enumerate_from 0 xs) q (0, d)).1) (λ q h. here q h ∙ every_out n _ all q h))
