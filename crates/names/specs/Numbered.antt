-- The cases of an enum by their numbers.
use Rattle.std.specs.Prelude.{◌≡◌, ℕ, cond, List, [], ◌∷◌, ℤ, pos, negsuc, Some, None, Option, ◌==◌}

-- the first of some cases that has number n
abbrev pub numbered : {X : Type 0} → (X → ℕ) → ℕ → List X → Option X
numbered number n [] = None
numbered number n (x ∷ xs) = cond (number x == n) (Some x) (numbered number n xs)

-- the case whose number a figure is
abbrev pub case_at : {X : Type 0} → (X → ℕ) → List X → ℤ → Option X
case_at number cases (pos n) = numbered number n cases
case_at number cases (negsuc n) = None

-- an answer is a case exactly where the figure is that case's number
abbrev pub Exactly : {X : Type 0} → (X → ℕ) → ℤ → Option X → Type 0
Exactly {X} number figure answer = (x : X) → (answer ≡ Some x → figure ≡ pos (number x)) × (figure ≡ pos (number x) → answer ≡ Some x)
