-- A walk through a section: the records that are read one after the other, and what ends it.
use Rattle.std.specs.Prelude.{◌≡◌, ℕ, ◌+◌, cond, List, [], ◌∷◌, length, Some, None, Ok, Err, Option, Result, ◌==◌, slice_index}
use Rattle.std.specs.Result.{result_err}
use Rattle.faults.specs.Refusals.{record_refusal}
use Rattle.faults.specs.declared.RecordFault.{RecordFault}
use Rattle.faults.specs.declared.Refusal.{Refusal}
use Rattle.layout.specs.Layout.{kind_number}
use Rattle.layout.specs.declared.kind.Kind.{Kind}
use Rattle.records.specs.Reading.{read_at}
use Rattle.values.specs.Values.{kind_of}
use Rattle.values.specs.declared.value.Record.{Record}
use Rattle.listing.specs.declared.summary.Summary.{Summary}
use Rattle.listing.specs.declared.tally.Tally.{Tally}

-- from position p on, a section holds these records
abbrev pub Holds : List ℕ → ℕ → List Record → Type 0
Holds s p [] = Unit {0}
Holds s p (v ∷ vs) = (read_at s p ≡ Ok (Some v)) × Holds s (p + 1) vs

-- what reading answers where a walk ends: no more, or a refusal
abbrev pub ended : Option RecordFault → Result (Option Record) Refusal
ended None = Ok None
ended (Some fault) = Err (record_refusal fault)

-- one for a record whose kind has this number
abbrev pub of_kind : ℕ → Option Kind → ℕ
of_kind n (Some kind) = cond (kind_number kind == n) 1 0
of_kind n None = 0

-- how many records have the kind of this number
abbrev pub count_of : ℕ → List Record → ℕ
count_of n [] = 0
count_of n (v ∷ vs) = of_kind n (kind_of v) + count_of n vs

-- the summary of so many records, counted so, where the reading answered so
abbrev pub summary_of : {X : Type 0} → ℕ → Tally → Result X RecordFault → Summary
summary_of position counted answer = record { records = position; tally = counted; fault = result_err answer }

-- a summary is that of the records that a section holds before its end or its first refusal
pub record Summed (s : List ℕ) (summary : Summary) : Type 0 where
  pub held : List Record
  pub holds : Holds s 0 held
  pub ends : read_at s (length held) ≡ ended summary.fault
  pub records : summary.records ≡ length held
  pub counts : (n : ℕ) → slice_index summary.tally.counts n ≡ count_of n held
