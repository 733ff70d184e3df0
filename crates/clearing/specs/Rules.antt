-- The four clearing rules, as propositions and as tests.
use Rattle.std.specs.Prelude.{◌≡◌, ℕ, zero, suc, ◌<◌, Bool, true, false, not, ◌||◌, ◌⊎◌, List, [], ◌∷◌, ℤ, pos, ◌≤ℤ◌, int_le}
use Rattle.std.specs.List.{AllByRecursion}
use Rattle.limits.specs.Limits.{zones, quarters}
use Rattle.names.specs.declared.lists.ListName.{ListName}
use Rattle.faults.specs.declared.ParticipantRule.{ParticipantRule}
use Rattle.faults.specs.declared.ParticipantRule.TheVariants.{Lawful, StrictForgoesNothing, LenientLosesNothing}
use Rattle.market.specs.Tests.{same_ℤ}
use Rattle.market.specs.Cells.{Table}
use Rattle.clearing.specs.Seats.{NamedList, Seat, cost, effect, forgoes, kinds_of, own}

abbrev pub IsLawful : Seat → Type 0
IsLawful s = s.kind.lawful s.schedule ≡ true

-- the rules that are asked of each participant: its schedule is lawful; a strict one forgoes nothing; a lenient one's surplus is not negative
abbrev pub Keeps : ParticipantRule → Table → Seat → Type 0
Keeps Lawful p s = IsLawful s
Keeps StrictForgoesNothing p s = s.kind.strict ≡ true → forgoes p s ≡ pos 0
Keeps LenientLosesNothing p s = s.kind.strict ≡ false → pos 0 ≤ℤ own p s

abbrev pub keeps : ParticipantRule → Table → Seat → Bool
keeps Lawful p s = s.kind.lawful s.schedule
keeps StrictForgoesNothing p s = not s.kind.strict || same_ℤ (forgoes p s) (pos 0)
keeps LenientLosesNothing p s = s.kind.strict || int_le (pos 0) (own p s)

-- the rule that is asked of each cell: the effects add up to the need
abbrev pub Covered : Table → List Seat → ℕ → ℕ → Type 0
Covered need ss z q = effect ss z q ≡ need z q

abbrev pub covered : Table → List Seat → ℕ → ℕ → Bool
covered need ss z q = same_ℤ (effect ss z q) (need z q)

-- each participant keeps a rule, and each cell is covered
abbrev pub AllKeep : ParticipantRule → Table → List Seat → Type 0
AllKeep rule p ss = AllByRecursion (Keeps rule p) ss

abbrev pub Covers : Table → List Seat → Type 0
Covers need ss = (z q : ℕ) → z < zones → q < quarters → Covered need ss z q

-- the first of which P does not hold has the number n
abbrev pub First : {X : Type 0} → (X → Type 0) → List X → ℕ → Type 0
First P [] n = ⊥
First P (x ∷ xs) zero = ¬ (P x)
First P (x ∷ xs) (suc n) = P x × First P xs n

-- the first in list order of which P does not hold stands in the list of that name, and has the number n there
abbrev pub FirstPlace : (Seat → Type 0) → List NamedList → ListName → ℕ → Type 0
FirstPlace P [] name n = ⊥
FirstPlace P (list ∷ lists) name n = ((name ≡ list.name) × First P list.seats n) ⊎ (AllByRecursion P list.seats × FirstPlace P lists name n)

-- the first list of which P does not hold has that name
abbrev pub FirstList : (NamedList → Type 0) → List NamedList → ListName → Type 0
FirstList P [] name = ⊥
FirstList P (list ∷ lists) name = ((name ≡ list.name) × ¬ (P list)) ⊎ (P list × FirstList P lists name)

-- whatever other lawful schedules of the same participants cover the needs, they cost at least the bound
abbrev pub CostAtLeast : Table → List Seat → ℤ → Type 0
CostAtLeast need ss bound = (other : List Seat) → kinds_of other ≡ kinds_of ss → AllByRecursion IsLawful other → Covers need other → bound ≤ℤ cost other
