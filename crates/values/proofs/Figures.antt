-- A value and its figures determine each other.
use Rattle.std.proofs.Common.{◌≡◌, ℕ, suc, ◌-◌, List, [], ◌∷◌, length, ℤ, Some, refl, ap, arith}
use Rattle.layout.specs.Layout.{fields_of}
use Rattle.layout.specs.Packing.{InRange, figures_in, filled}
use Rattle.layout.specs.declared.field.Field.{Field}
use Rattle.layout.specs.declared.kind.Kind.{Kind}
use Rattle.layout.specs.declared.kind.Kind.TheVariants as k
use Rattle.values.specs.Bounds.{Bounded}
use Rattle.values.specs.FigureLaws.{bid_back, bid_kept, corridor_back, corridor_kept, header_back, header_kept, line_back, line_kept, prices_back, prices_kept, total_back, total_kept, volumes_back, volumes_kept, withdrawal_back, withdrawal_kept, zone_back, zone_kept}
use Rattle.values.specs.Values.{Shaped, figures_of, kind_of, record_of}
use Rattle.values.proofs.Filled.{bounded}
use Rattle.values.specs.declared.value.Record.{Record}
use Rattle.values.specs.declared.value.Record.TheVariants as r

-- a kind's value is the one that has its figures
pub value_of_figures : (value : Record) (kind : Kind) → kind_of value ≡ Some kind → Shaped value → record_of kind (figures_of value) ≡ value
value_of_figures r.Blank kind e s = let z : ◌≡◌ {A = ℕ} 0 1 = cc in absurd (omega arith)
value_of_figures (r.Zone x) kind e s = let h : kind ≡ k.Zone = cc in rw h (ap r.Zone (zone_back x s))
value_of_figures (r.Ordinary x) kind e s = let h : kind ≡ k.Ordinary = cc in rw h (ap r.Ordinary (bid_back x s))
value_of_figures (r.Whole x) kind e s = let h : kind ≡ k.Whole = cc in rw h (ap r.Whole (bid_back x s))
value_of_figures (r.Corridor x) kind e s = let h : kind ≡ k.Corridor = cc in rw h (ap r.Corridor (corridor_back x s))
value_of_figures (r.Withdrawal x) kind e s = let h : kind ≡ k.Withdrawal = cc in rw h (ap r.Withdrawal (withdrawal_back x s))
value_of_figures (r.Prices x) kind e s = let h : kind ≡ k.Prices = cc in rw h (ap r.Prices (prices_back x s))
value_of_figures (r.Schedule x) kind e s = let h : kind ≡ k.Schedule = cc in rw h (ap r.Schedule (volumes_back x s))
value_of_figures (r.Meter x) kind e s = let h : kind ≡ k.Meter = cc in rw h (ap r.Meter (volumes_back x s))
value_of_figures (r.Line x) kind e s = let h : kind ≡ k.Line = cc in rw h (ap r.Line (line_back x s))
value_of_figures (r.Total x) kind e s = let h : kind ≡ k.Total = cc in rw h (ap r.Total (total_back x s))
value_of_figures (r.Header x) kind e s = let h : kind ≡ k.Header = cc in rw h (ap r.Header (header_back x s))

-- figures in their bounds are those of the value that has them
figures_kept : (kind : Kind) (xs : List ℤ) → Bounded (fields_of kind) 0 xs → length xs ≡ length (fields_of kind) → figures_of (record_of kind xs) ≡ xs
figures_kept k.Zone xs s l = zone_kept xs s l
figures_kept k.Ordinary xs s l = bid_kept xs s l
figures_kept k.Whole xs s l = bid_kept xs s l
figures_kept k.Corridor xs s l = corridor_kept xs s l
figures_kept k.Withdrawal xs s l = withdrawal_kept xs s l
figures_kept k.Prices xs s l = prices_kept xs s l
figures_kept k.Schedule xs s l = volumes_kept xs s l
figures_kept k.Meter xs s l = volumes_kept xs s l
figures_kept k.Line xs s l = line_kept xs s l
figures_kept k.Total xs s l = total_kept xs s l
figures_kept k.Header xs s l = header_kept xs s l

figures_number : (fs : List Field) (left n : ℕ) → length (figures_in fs left n) ≡ length fs
figures_number [] left n = refl
figures_number (f ∷ fs) left n = ap suc (figures_number fs (left - f.width) n)

-- what was read from a word in range, as figures of its value
pub figures_of_value : (kind : Kind) (n : ℕ) → InRange (fields_of kind) 0 (figures_in (fields_of kind) 124 n) → figures_of (record_of kind (figures_in (fields_of kind) 124 n)) ≡ figures_in (fields_of kind) 124 n
figures_of_value kind n s = figures_kept kind (figures_in (fields_of kind) 124 n) (bounded (fields_of kind) 0 (figures_in (fields_of kind) 124 n) s) (figures_number (fields_of kind) 124 n)

-- the record of a kind is of that kind, and its arrays have their four figures
pub kind_of_value : (kind : Kind) (xs : List ℤ) → kind_of (record_of kind xs) ≡ Some kind
kind_of_value k.Zone xs = refl
kind_of_value k.Ordinary xs = refl
kind_of_value k.Whole xs = refl
kind_of_value k.Corridor xs = refl
kind_of_value k.Withdrawal xs = refl
kind_of_value k.Prices xs = refl
kind_of_value k.Schedule xs = refl
kind_of_value k.Meter xs = refl
kind_of_value k.Line xs = refl
kind_of_value k.Total xs = refl
kind_of_value k.Header xs = refl

pub shape_of_value : (kind : Kind) (xs : List ℤ) → Shaped (record_of kind xs)
shape_of_value k.Zone xs = refl
shape_of_value k.Ordinary xs = refl
shape_of_value k.Whole xs = refl
shape_of_value k.Corridor xs = (refl, refl)
shape_of_value k.Withdrawal xs = tt
shape_of_value k.Prices xs = refl
shape_of_value k.Schedule xs = refl
shape_of_value k.Meter xs = refl
shape_of_value k.Line xs = tt
shape_of_value k.Total xs = tt
shape_of_value k.Header xs = tt

-- the zeros behind the figures are not looked at
pub record_filled : (kind : Kind) (n : ℕ) → record_of kind (filled (figures_in (fields_of kind) 124 n)) ≡ record_of kind (figures_in (fields_of kind) 124 n)
record_filled k.Zone n = refl
record_filled k.Ordinary n = refl
record_filled k.Whole n = refl
record_filled k.Corridor n = refl
record_filled k.Withdrawal n = refl
record_filled k.Prices n = refl
record_filled k.Schedule n = refl
record_filled k.Meter n = refl
record_filled k.Line n = refl
record_filled k.Total n = refl
record_filled k.Header n = refl

-- a value has as many figures as its kind has fields
pub figure_count : (value : Record) (kind : Kind) → kind_of value ≡ Some kind → length (figures_of value) ≡ length (fields_of kind)
figure_count r.Blank kind e = let z : ◌≡◌ {A = ℕ} 0 1 = cc in absurd (omega arith)
figure_count (r.Zone x) kind e = let h : kind ≡ k.Zone = cc in rw h refl
figure_count (r.Ordinary x) kind e = let h : kind ≡ k.Ordinary = cc in rw h refl
figure_count (r.Whole x) kind e = let h : kind ≡ k.Whole = cc in rw h refl
figure_count (r.Corridor x) kind e = let h : kind ≡ k.Corridor = cc in rw h refl
figure_count (r.Withdrawal x) kind e = let h : kind ≡ k.Withdrawal = cc in rw h refl
figure_count (r.Prices x) kind e = let h : kind ≡ k.Prices = cc in rw h refl
figure_count (r.Schedule x) kind e = let h : kind ≡ k.Schedule = cc in rw h refl
figure_count (r.Meter x) kind e = let h : kind ≡ k.Meter = cc in rw h refl
figure_count (r.Line x) kind e = let h : kind ≡ k.Line = cc in rw h refl
figure_count (r.Total x) kind e = let h : kind ≡ k.Total = cc in rw h refl
figure_count (r.Header x) kind e = let h : kind ≡ k.Header = cc in rw h refl
