-- Each case is the one that its number names.
use Rattle.std.specs.Prelude.{◌≡◌, pos, Some, refl}
use Rattle.names.specs.Names.{direction_at, direction_number, list_at, list_number, total_at, total_number}
use Rattle.names.specs.declared.lists.Direction.{Direction}
use Rattle.names.specs.declared.lists.Direction.TheVariants as direction
use Rattle.names.specs.declared.lists.ListName.{ListName}
use Rattle.names.specs.declared.lists.ListName.TheVariants as list
use Rattle.names.specs.declared.lists.TotalName.{TotalName}
use Rattle.names.specs.declared.lists.TotalName.TheVariants as total

pub direction_found : (d : Direction) → direction_at (pos (direction_number d)) ≡ Some d
direction_found direction.Up = refl
direction_found direction.Down = refl

pub list_found : (l : ListName) → list_at (pos (list_number l)) ≡ Some l
list_found list.Ordinary = refl
list_found list.Whole = refl
list_found list.Corridors = refl

pub total_found : (t : TotalName) → total_at (pos (total_number t)) ≡ Some t
total_found total.Cost = refl
total_found total.ForgoneSurplus = refl
total_found total.NeedsValue = refl
total_found total.TopUps = refl
total_found total.Payments = refl
total_found total.CongestionIncome = refl
total_found total.Deductions = refl
