-- Tests of whole numbers, and tests that every number below n passes.
use Rattle.std.specs.Prelude.{◌≡◌, ℕ, zero, suc, Bool, true, ◌&&◌, ℤ, pos, neg_ℤ, ◌≤ℤ◌, int_le}

-- from -m to m
abbrev pub Within : ℕ → ℤ → Type 0
Within m a = (neg_ℤ (pos m) ≤ℤ a) × (a ≤ℤ pos m)

abbrev pub within : ℕ → ℤ → Bool
within m a = int_le (neg_ℤ (pos m)) a && int_le a (pos m)

-- two whole numbers are the same
abbrev pub same_ℤ : ℤ → ℤ → Bool
same_ℤ a b = int_le a b && int_le b a

-- an answer tells whether P holds
abbrev pub Tells : Bool → Type 0 → Type 0
Tells answer P = (answer ≡ true → P) × (P → answer ≡ true)

-- each number below n passes
unfoldable pub every : ℕ → (ℕ → Bool) → Bool
every zero t = true
every (suc n) t = every n t && t n
