-- The figures of each value, field by field behind the kind, and the value that has given figures.
use Rattle.std.specs.Prelude.{◌≡◌, ℕ, ◌+◌, List, [], ◌∷◌, ◌++◌, length, ℤ, pos, Some, None, Option, Result, slice_index, unsigned_abs}
use Rattle.std.specs.Option.{unwrap_or}
use Rattle.layout.specs.Fields.{at}
use Rattle.layout.specs.Layout.{fields_of}
use Rattle.layout.specs.Packing.{first_out_of_range, or_field}
use Rattle.names.specs.Names.{direction_at, direction_number, list_at, list_number, total_at, total_number}
use Rattle.layout.specs.declared.kind.Kind.{Kind}
use Rattle.layout.specs.declared.kind.Kind.TheVariants as k
use Rattle.layout.specs.declared.packing.OutOfRange.{OutOfRange}
use Rattle.names.specs.declared.lists.Direction.TheVariants as direction
use Rattle.names.specs.declared.lists.ListName.TheVariants as list
use Rattle.names.specs.declared.lists.TotalName.TheVariants as total
use Rattle.values.specs.declared.value.BidRecord.{BidRecord}
use Rattle.values.specs.declared.value.CorridorRecord.{CorridorRecord}
use Rattle.values.specs.declared.value.HeaderRecord.{HeaderRecord}
use Rattle.values.specs.declared.value.LineRecord.{LineRecord}
use Rattle.values.specs.declared.value.PricesRecord.{PricesRecord}
use Rattle.values.specs.declared.value.Record.{Record}
use Rattle.values.specs.declared.value.Record.TheVariants as r
use Rattle.values.specs.declared.value.TotalRecord.{TotalRecord}
use Rattle.values.specs.declared.value.VolumesRecord.{VolumesRecord}
use Rattle.values.specs.declared.value.WithdrawalRecord.{WithdrawalRecord}
use Rattle.values.specs.declared.value.ZoneRecord.{ZoneRecord}

-- the four figures of an array, one for each quarter
abbrev pub quarters_of : List ℤ → List ℤ
quarters_of xs = at xs 0 ∷ at xs 1 ∷ at xs 2 ∷ at xs 3 ∷ []

abbrev pub counts_of : List ℕ → List ℤ
counts_of xs = pos (slice_index xs 0) ∷ pos (slice_index xs 1) ∷ pos (slice_index xs 2) ∷ pos (slice_index xs 3) ∷ []

-- the four values, one for each quarter, of the figures from place i on
abbrev pub quarters_from : {X : Type 0} → (ℤ → X) → List ℤ → ℕ → List X
quarters_from value xs i = value (at xs i) ∷ value (at xs (i + 1)) ∷ value (at xs (i + 2)) ∷ value (at xs (i + 3)) ∷ []

-- an array has its four figures
abbrev pub Four : {X : Type 0} → List X → Type 0
Four xs = length xs ≡ 4

abbrev pub zone_figures : ZoneRecord → List ℤ
zone_figures x = pos x.zone ∷ x.day_ahead_price ∷ quarters_of x.needs

abbrev pub zone_of : List ℤ → ZoneRecord
zone_of xs = record { zone = unsigned_abs (at xs 0); day_ahead_price = at xs 1; needs = quarters_from (λ x. x) xs 2 }

abbrev pub bid_figures : BidRecord → List ℤ
bid_figures x =
    pos x.number ∷ pos x.zone ∷ pos (direction_number x.direction)
    ∷ x.half_euros ∷ pos x.station_group ∷ counts_of x.quantities

abbrev pub bid_of : List ℤ → BidRecord
bid_of xs =
    record {
      number = unsigned_abs (at xs 0);
      zone = unsigned_abs (at xs 1);
      direction = unwrap_or (direction_at (at xs 2)) direction.Up;
      half_euros = at xs 3;
      station_group = unsigned_abs (at xs 4);
      quantities = quarters_from unsigned_abs xs 5;
    }

abbrev pub corridor_figures : CorridorRecord → List ℤ
corridor_figures x = pos x.number ∷ pos x.from_zone ∷ pos x.to_zone ∷ (counts_of x.forward ++ counts_of x.backward)

abbrev pub corridor_of : List ℤ → CorridorRecord
corridor_of xs =
    record {
      number = unsigned_abs (at xs 0);
      from_zone = unsigned_abs (at xs 1);
      to_zone = unsigned_abs (at xs 2);
      forward = quarters_from unsigned_abs xs 3;
      backward = quarters_from unsigned_abs xs 7;
    }

abbrev pub withdrawal_figures : WithdrawalRecord → List ℤ
withdrawal_figures x = pos (list_number x.list) ∷ pos x.number ∷ []

abbrev pub withdrawal_of : List ℤ → WithdrawalRecord
withdrawal_of xs = record { list = unwrap_or (list_at (at xs 0)) list.Ordinary; number = unsigned_abs (at xs 1) }

abbrev pub prices_figures : PricesRecord → List ℤ
prices_figures x = pos x.zone ∷ quarters_of x.prices

abbrev pub prices_of : List ℤ → PricesRecord
prices_of xs = record { zone = unsigned_abs (at xs 0); prices = quarters_from (λ x. x) xs 1 }

abbrev pub volumes_figures : VolumesRecord → List ℤ
volumes_figures x = pos (list_number x.list) ∷ pos x.number ∷ quarters_of x.megawatts

abbrev pub volumes_of : List ℤ → VolumesRecord
volumes_of xs = record { list = unwrap_or (list_at (at xs 0)) list.Ordinary; number = unsigned_abs (at xs 1); megawatts = quarters_from (λ x. x) xs 2 }

abbrev pub line_figures : LineRecord → List ℤ
line_figures x = pos (list_number x.list) ∷ pos x.number ∷ x.payment ∷ x.deduction ∷ []

abbrev pub line_of : List ℤ → LineRecord
line_of xs = record { list = unwrap_or (list_at (at xs 0)) list.Ordinary; number = unsigned_abs (at xs 1); payment = at xs 2; deduction = at xs 3 }

abbrev pub total_figures : TotalRecord → List ℤ
total_figures x = pos (total_number x.which) ∷ x.value ∷ []

abbrev pub total_of : List ℤ → TotalRecord
total_of xs = record { which = unwrap_or (total_at (at xs 0)) total.Cost; value = at xs 1 }

abbrev pub header_figures : HeaderRecord → List ℤ
header_figures x =
    pos x.hour ∷ pos x.rate ∷ pos x.market_records
    ∷ pos x.proposal_records ∷ pos x.meter_records ∷ []

abbrev pub header_of : List ℤ → HeaderRecord
header_of xs =
    record {
      hour = unsigned_abs (at xs 0);
      rate = unsigned_abs (at xs 1);
      market_records = unsigned_abs (at xs 2);
      proposal_records = unsigned_abs (at xs 3);
      meter_records = unsigned_abs (at xs 4);
    }

-- the kind of a record; the blank one has none
abbrev pub kind_of : Record → Option Kind
kind_of r.Blank = None
kind_of (r.Zone x) = Some k.Zone
kind_of (r.Ordinary x) = Some k.Ordinary
kind_of (r.Whole x) = Some k.Whole
kind_of (r.Corridor x) = Some k.Corridor
kind_of (r.Withdrawal x) = Some k.Withdrawal
kind_of (r.Prices x) = Some k.Prices
kind_of (r.Schedule x) = Some k.Schedule
kind_of (r.Meter x) = Some k.Meter
kind_of (r.Line x) = Some k.Line
kind_of (r.Total x) = Some k.Total
kind_of (r.Header x) = Some k.Header

abbrev pub figures_of : Record → List ℤ
figures_of r.Blank = []
figures_of (r.Zone x) = zone_figures x
figures_of (r.Ordinary x) = bid_figures x
figures_of (r.Whole x) = bid_figures x
figures_of (r.Corridor x) = corridor_figures x
figures_of (r.Withdrawal x) = withdrawal_figures x
figures_of (r.Prices x) = prices_figures x
figures_of (r.Schedule x) = volumes_figures x
figures_of (r.Meter x) = volumes_figures x
figures_of (r.Line x) = line_figures x
figures_of (r.Total x) = total_figures x
figures_of (r.Header x) = header_figures x

-- the record of a kind that has these figures
abbrev pub record_of : Kind → List ℤ → Record
record_of k.Zone xs = r.Zone (zone_of xs)
record_of k.Ordinary xs = r.Ordinary (bid_of xs)
record_of k.Whole xs = r.Whole (bid_of xs)
record_of k.Corridor xs = r.Corridor (corridor_of xs)
record_of k.Withdrawal xs = r.Withdrawal (withdrawal_of xs)
record_of k.Prices xs = r.Prices (prices_of xs)
record_of k.Schedule xs = r.Schedule (volumes_of xs)
record_of k.Meter xs = r.Meter (volumes_of xs)
record_of k.Line xs = r.Line (line_of xs)
record_of k.Total xs = r.Total (total_of xs)
record_of k.Header xs = r.Header (header_of xs)

-- the record of a kind that has these figures, or the first field whose figure is out of range
abbrev pub record_or_field : Kind → List ℤ → Result Record OutOfRange
record_or_field kind xs = or_field (first_out_of_range (fields_of kind) 0 xs) (record_of kind xs)

-- each array of a record has its four figures
abbrev pub Shaped : Record → Type 0
Shaped r.Blank = Unit {0}
Shaped (r.Zone x) = Four x.needs
Shaped (r.Ordinary x) = Four x.quantities
Shaped (r.Whole x) = Four x.quantities
Shaped (r.Corridor x) = Four x.forward × Four x.backward
Shaped (r.Withdrawal x) = Unit {0}
Shaped (r.Prices x) = Four x.prices
Shaped (r.Schedule x) = Four x.megawatts
Shaped (r.Meter x) = Four x.megawatts
Shaped (r.Line x) = Unit {0}
Shaped (r.Total x) = Unit {0}
Shaped (r.Header x) = Unit {0}
