-- What a bid tells besides, and what that says of its schedules.
use Rattle.std.specs.Prelude.{◌≡◌, ℕ, ◌<◌, true, ◌≢◌, List, ℤ, pos, ◌*ℤ◌, ◌≤ℤ◌}
use Rattle.limits.specs.Limits.{quarters}
use Rattle.names.specs.declared.lists.Direction.{Direction}
use Rattle.names.specs.declared.lists.Direction.TheVariants.{Up, Down}
use Rattle.market.specs.Kinds.{Kind, mw, total_mw}

-- the effect is the schedule in the bid's own zone, and 0 elsewhere
pub record ActsInZone (k : Kind) (zone : ℕ) : Type 0 where
  pub here : (s : List ℤ) (q : ℕ) → q < quarters → k.lawful s ≡ true → k.effect s zone q ≡ mw s q
  pub elsewhere : (s : List ℤ) (z q : ℕ) → z ≢ zone → k.effect s z q ≡ pos 0

-- the cost is the price times the sum of the schedule
abbrev pub CostsPrice : Kind → ℤ → Type 0
CostsPrice k price = (s : List ℤ) → k.lawful s ≡ true → k.cost s ≡ price *ℤ total_mw s

-- a volume does not run against a direction
abbrev pub Along : Direction → ℤ → Type 0
Along Up volume = pos 0 ≤ℤ volume
Along Down volume = volume ≤ℤ pos 0

-- no lawful schedule runs against the direction
abbrev pub RunsAlong : Kind → Direction → Type 0
RunsAlong k direction = (s : List ℤ) (q : ℕ) → q < quarters → k.lawful s ≡ true → Along direction (mw s q)
