-- The first of some numbers for which there is something.
use Rattle.std.specs.Prelude.{ℕ, zero, suc, None, Option}
use Rattle.std.specs.Option.{option_or}

-- the first of g 0, .., g (n - 1) that there is
unfoldable pub first_some : {X : Type 0} → ℕ → (ℕ → Option X) → Option X
first_some zero g = None
first_some (suc n) g = option_or (first_some n g) (g n)
