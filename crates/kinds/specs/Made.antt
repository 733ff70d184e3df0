-- What is made from figures.
use Rattle.std.specs.Prelude.{◌≡◌, Bool, true, false, Some, None, Option}

-- one is made, of exactly these figures, where they fit, and none elsewhere
abbrev pub MadeFrom : {F X : Type 0} → (F → Bool) → (X → F) → F → Option X → Type 0
MadeFrom fits figures_of figures None = fits figures ≡ false
MadeFrom fits figures_of figures (Some one) = (fits figures ≡ true) × (figures_of one ≡ figures)
