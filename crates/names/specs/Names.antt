-- The names that records carry, with the number of each: lists, directions and totals.
use Rattle.std.specs.Prelude.{ℕ, Bool, true, false, List, [], ◌∷◌, ℤ, Option}
use Rattle.names.specs.Numbered.{case_at}
use Rattle.names.specs.declared.lists.ListName.{ListName}
use Rattle.names.specs.declared.lists.ListName.TheVariants.{Ordinary, Whole, Corridors}
use Rattle.names.specs.declared.lists.Direction.{Direction}
use Rattle.names.specs.declared.lists.Direction.TheVariants.{Up, Down}
use Rattle.names.specs.declared.lists.TotalName.{TotalName}
use Rattle.names.specs.declared.lists.TotalName.TheVariants.{Cost, ForgoneSurplus, NeedsValue, TopUps, Payments, CongestionIncome, Deductions}

-- a list is named by the kind of record that enters its participants
abbrev pub list_number : ListName → ℕ
list_number Ordinary = 2
list_number Whole = 3
list_number Corridors = 4

-- how many numbers a list has, from 0
abbrev pub list_size : ListName → ℕ
list_size Ordinary = 256
list_size Whole = 64
list_size Corridors = 32

-- whether the participants of a list are bids
abbrev pub has_bids : ListName → Bool
has_bids Ordinary = true
has_bids Whole = true
has_bids Corridors = false

-- all lists, in list order
abbrev pub lists : List ListName
lists = Ordinary ∷ Whole ∷ Corridors ∷ []

abbrev pub list_at : ℤ → Option ListName
list_at figure = case_at list_number lists figure

abbrev pub direction_number : Direction → ℕ
direction_number Up = 0
direction_number Down = 1

abbrev pub directions : List Direction
directions = Up ∷ Down ∷ []

abbrev pub direction_at : ℤ → Option Direction
direction_at figure = case_at direction_number directions figure

abbrev pub total_number : TotalName → ℕ
total_number Cost = 1
total_number ForgoneSurplus = 2
total_number NeedsValue = 3
total_number TopUps = 4
total_number Payments = 5
total_number CongestionIncome = 6
total_number Deductions = 7

abbrev pub totals : List TotalName
totals = Cost ∷ ForgoneSurplus ∷ NeedsValue ∷ TopUps ∷ Payments ∷ CongestionIncome ∷ Deductions ∷ []

abbrev pub total_at : ℤ → Option TotalName
total_at figure = case_at total_number totals figure
