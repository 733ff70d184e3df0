-- Each kind is the one that its number names.
use Rattle.std.specs.Prelude.{◌≡◌, pos, Some, refl}
use Rattle.layout.specs.Layout.{kind_at, kind_number}
use Rattle.layout.specs.declared.kind.Kind.{Kind}
use Rattle.layout.specs.declared.kind.Kind.TheVariants as k

pub kind_found : (kind : Kind) → kind_at (pos (kind_number kind)) ≡ Some kind
kind_found k.Zone = refl
kind_found k.Ordinary = refl
kind_found k.Whole = refl
kind_found k.Corridor = refl
kind_found k.Withdrawal = refl
kind_found k.Prices = refl
kind_found k.Schedule = refl
kind_found k.Meter = refl
kind_found k.Line = refl
kind_found k.Total = refl
kind_found k.Header = refl
