-- What it takes that figures are those of a value: the ends of the ranges, and that a name is one, without the other rules.
use Rattle.std.specs.Prelude.{◌≡◌, ℕ, ◌+◌, ◌≤◌, true, List, [], ◌∷◌, ℤ, ◌≤ℤ◌, is_some, Ok, Err, Result}
use Rattle.layout.specs.Fields.{at}
use Rattle.layout.specs.declared.field.Field.{Field}
use Rattle.layout.specs.declared.field.Rule.{Rule}
use Rattle.layout.specs.declared.field.Rule.TheVariants.{Within, NamesDirection, NamesTotal, NamesList, NamesBidList, NumberIn, NumberInNamedList, OtherThanFromZone, OrdinaryQuantity, Quantity}
use Rattle.names.specs.Names.{direction_at, list_at, total_at}

-- a figure whose field asks for a name is the number of one
abbrev pub Named : Rule → ℤ → Type 0
Named Within x = Unit {0}
Named NamesDirection x = is_some (direction_at x) ≡ true
Named NamesTotal x = is_some (total_at x) ≡ true
Named NamesList x = is_some (list_at x) ≡ true
Named NamesBidList x = is_some (list_at x) ≡ true
Named (NumberIn list) x = Unit {0}
Named NumberInNamedList x = Unit {0}
Named OtherThanFromZone x = Unit {0}
Named OrdinaryQuantity x = Unit {0}
Named Quantity x = Unit {0}

-- each figure from place i on lies between the ends of its field's range, and is a name's number where the field asks for a name
abbrev pub Bounded : List Field → ℕ → List ℤ → Type 0
Bounded [] i xs = Unit {0}
Bounded (f ∷ fs) i xs = (f.low ≤ℤ at xs i) × (at xs i ≤ℤ f.high) × Named f.rule (at xs i) × Bounded fs (i + 1) xs

-- a figure that a conversion does not refuse
abbrev pub Fits : {X E : Type 0} → (ℤ → Result X E → Type 0) → ℤ → Type 0
Fits {X} {E} gives x = (e : E) → ¬ (gives x (Err e))

-- the four figures from place i on fit a type
abbrev pub FitQuarters : (ℤ → Type 0) → List ℤ → ℕ → Type 0
FitQuarters Fits xs i = (i ≤ 7) × Fits (at xs i) × Fits (at xs (i + 1)) × Fits (at xs (i + 2)) × Fits (at xs (i + 3))

-- the four values of an array are those that a conversion gives for the figures from place i on
abbrev pub GivesQuarters : {X E : Type 0} → (ℤ → Result X E → Type 0) → List ℤ → ℕ → List X → Type 0
GivesQuarters gives xs i (a ∷ b ∷ c ∷ d ∷ []) = gives (at xs i) (Ok a) × gives (at xs (i + 1)) (Ok b) × gives (at xs (i + 2)) (Ok c) × gives (at xs (i + 3)) (Ok d)
GivesQuarters gives xs i _ = ⊥
