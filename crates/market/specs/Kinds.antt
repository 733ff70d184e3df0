-- What a kind of participant means: its answers to four questions, its mark, and the laws that every kind keeps.
use Rattle.std.specs.Prelude.{◌≡◌, ℕ, ◌+◌, ◌*◌, ◌<◌, Bool, true, false, List, [], ◌∷◌, length, ℤ, pos, ◌-ℤ◌, ◌*ℤ◌, ◌≤ℤ◌, slice_index_or}
use Rattle.limits.specs.Limits.{zones, quarters, price_limit, effect_limit, cost_limit}
use Rattle.market.specs.Sums.{sum_below, sum_cells}
use Rattle.market.specs.Tests.{every, same_ℤ, Within}
use Rattle.market.specs.Cells.{Table, InRange}
use Rattle.market.specs.declared.participant.Mark.{Mark}
use Rattle.market.specs.declared.participant.Mark.TheVariants.{Strict, Lenient}

-- the MW of a schedule in a quarter; a schedule is a list of whole numbers, of which the first four count, and what is missing is 0
abbrev pub mw : List ℤ → ℕ → ℤ
mw s q = slice_index_or s q (pos 0)

-- the MW of all quarters together
abbrev pub total_mw : List ℤ → ℤ
total_mw s = sum_below quarters (mw s)

abbrev pub empty : List ℤ
empty = pos 0 ∷ pos 0 ∷ pos 0 ∷ pos 0 ∷ []

-- nothing in any quarter
abbrev pub Empty : List ℤ → Type 0
Empty s = (q : ℕ) → q < quarters → mw s q ≡ pos 0

abbrev pub is_empty : List ℤ → Bool
is_empty s = every quarters (λ q. same_ℤ (mw s q) (pos 0))

-- what a test of a quarter and its MW answers, as a function of the two
abbrev pub Judges : (ℕ → ℤ → Bool → Type 0) → (ℕ → ℤ → Bool) → Type 0
Judges gives t = (q : ℕ) (v : ℤ) (b : Bool) → gives q v b → b ≡ t q v

-- of the two marks that a kind can bear, the strict one
abbrev pub is_strict : Mark → Bool
is_strict Strict = true
is_strict Lenient = false

-- a participant of some kind, by its answers
pub record Kind : Type 0 where
  pub strict : Bool
  pub lawful : List ℤ → Bool
  pub cost : List ℤ → ℤ
  pub effect : List ℤ → Table
  pub best : Table → ℤ

-- what an effect is worth at given prices
abbrev pub worth : Kind → Table → List ℤ → ℤ
worth k p s = sum_cells (λ z q. p z q *ℤ k.effect s z q)

-- the surplus of a schedule at given prices
abbrev pub surplus : Kind → Table → List ℤ → ℤ
surplus k p s = worth k p s -ℤ k.cost s

-- how large they can be at prices of 32 bits
abbrev pub quarter_worth_limit : ℕ
quarter_worth_limit = 2147483648 * effect_limit

abbrev pub zone_worth_limit : ℕ
zone_worth_limit = quarters * quarter_worth_limit

abbrev pub worth_limit : ℕ
worth_limit = zones * zone_worth_limit

abbrev pub surplus_limit : ℕ
surplus_limit = worth_limit + cost_limit

-- a best surplus is that of a lawful schedule at prices in range
abbrev pub best_limit : ℕ
best_limit = zones * (quarters * (price_limit * effect_limit)) + cost_limit

-- the laws of a kind; every schedule of whole numbers is meant, whatever its size
pub record Sound (k : Kind) : Type 0 where
  pub empty_is_lawful : k.lawful empty ≡ true
  pub empty_costs_nothing : k.cost empty ≡ pos 0
  pub empty_has_no_effect : (z q : ℕ) → k.effect empty z q ≡ pos 0
  pub unlawful_costs_nothing : (s : List ℤ) → k.lawful s ≡ false → k.cost s ≡ pos 0
  pub unlawful_has_no_effect : (s : List ℤ) (z q : ℕ) → k.lawful s ≡ false → k.effect s z q ≡ pos 0
  pub no_effect_outside_cells : (s : List ℤ) (z q : ℕ) → ¬ ((z < zones) × (q < quarters)) → k.effect s z q ≡ pos 0
  pub effects_in_range : (s : List ℤ) (z q : ℕ) → Within effect_limit (k.effect s z q)
  pub costs_in_range : (s : List ℤ) → Within cost_limit (k.cost s)
  pub none_is_better : (p : Table) (s : List ℤ) → InRange p → k.lawful s ≡ true → surplus k p s ≤ℤ k.best p
  pub best_is_reached : (p : Table) → InRange p → (s : List ℤ) × (length s ≡ quarters) × (k.lawful s ≡ true) × (surplus k p s ≡ k.best p)
  pub no_best_out_of_range : (p : Table) → ¬ (InRange p) → k.best p ≡ pos 0
