-- What the table owes the fields of each kind, and how large the numbers of the kinds are.
use Rattle.std.proofs.Common.{◌<◌, refl, arith}
use Rattle.layout.specs.Layout.{fields_of, kind_number}
use Rattle.layout.specs.Sound.{Laid}
use Rattle.layout.specs.declared.kind.Kind.{Kind}
use Rattle.layout.specs.declared.kind.Kind.TheVariants as k

pub laid : (kind : Kind) → Laid (fields_of kind)
laid k.Zone = record { few = omega arith; below = omega arith; each = refl }
laid k.Ordinary = record { few = omega arith; below = omega arith; each = refl }
laid k.Whole = record { few = omega arith; below = omega arith; each = refl }
laid k.Corridor = record { few = omega arith; below = omega arith; each = refl }
laid k.Withdrawal = record { few = omega arith; below = omega arith; each = refl }
laid k.Prices = record { few = omega arith; below = omega arith; each = refl }
laid k.Schedule = record { few = omega arith; below = omega arith; each = refl }
laid k.Meter = record { few = omega arith; below = omega arith; each = refl }
laid k.Line = record { few = omega arith; below = omega arith; each = refl }
laid k.Total = record { few = omega arith; below = omega arith; each = refl }
laid k.Header = record { few = omega arith; below = omega arith; each = refl }

pub number_below : (kind : Kind) → kind_number kind < 16
number_below k.Zone = omega arith
number_below k.Ordinary = omega arith
number_below k.Whole = omega arith
number_below k.Corridor = omega arith
number_below k.Withdrawal = omega arith
number_below k.Prices = omega arith
number_below k.Schedule = omega arith
number_below k.Meter = omega arith
number_below k.Line = omega arith
number_below k.Total = omega arith
number_below k.Header = omega arith
