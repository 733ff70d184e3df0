-- What writing a value answers, and what it does to the buffer.
use Rattle.std.specs.Prelude.{◌≡◌, ℕ, ◌<◌, Bool, true, false, List, ◌++◌, length, take, drop, Some, None, Ok, Err, Option, Result, nat_le}
use Rattle.faults.specs.Refusals.{record_refusal, sheet_refusal}
use Rattle.faults.specs.declared.RecordFault.{RecordFault}
use Rattle.faults.specs.declared.RecordFault.TheVariants.{UnknownKind, OutOfRange}
use Rattle.faults.specs.declared.Refusal.{Refusal}
use Rattle.faults.specs.declared.SheetFault.{SheetFault}
use Rattle.faults.specs.declared.SheetFault.TheVariants.{NoRoom}
use Rattle.layout.specs.Layout.{fields_of}
use Rattle.layout.specs.Packing.{first_out_of_range}
use Rattle.layout.specs.declared.kind.Kind.{Kind}
use Rattle.records.specs.Encoding.{Encodes, encoding, word_as}
use Rattle.records.specs.Reading.{read_at}
use Rattle.values.specs.Values.{figures_of, kind_of}
use Rattle.values.specs.declared.value.Record.{Record}

-- 4 at the first field out of range
abbrev pub or_out_of_range : Option ℕ → Result (Unit {0}) Refusal
or_out_of_range None = Ok tt
or_out_of_range (Some field) = Err (record_refusal (OutOfRange 0 field))

-- 3 for the blank record
abbrev pub checked_as : Record → Option Kind → Result (Unit {0}) Refusal
checked_as value None = Err (record_refusal (UnknownKind 0))
checked_as value (Some kind) = or_out_of_range (first_out_of_range (fields_of kind) 0 (figures_of value))

-- whether a record can hold a value
abbrev pub checked : Record → Result (Unit {0}) Refusal
checked value = checked_as value (kind_of value)

abbrev pub if_room : Bool → Result (Unit {0}) Refusal
if_room true = Ok tt
if_room false = Err (sheet_refusal NoRoom)

-- 16 where a buffer is shorter than what is wanted, after what was refused before
abbrev pub then_room : Bool → Result (Unit {0}) Refusal → Result (Unit {0}) Refusal
then_room room (Ok _) = if_room room
then_room room (Err refusal) = Err refusal

-- the answer to writing a value into a buffer of so many bytes
abbrev pub writing : Record → ℕ → Result (Unit {0}) Refusal
writing value size = then_room (nat_le 16 size) (checked value)

-- the buffer afterwards: the encoding in its first 16 bytes, or, where refused, as it was
abbrev pub written : Record → List ℕ → Result (Unit {0}) SheetFault → List ℕ
written value old (Ok _) = encoding value ++ drop 16 old
written value old (Err fault) = old

-- what was written encodes the value, nothing else does, and reading gives the value back
pub record RoundTrip (value : Record) (buffer : List ℕ) : Type 0 where
  pub encodes : Encodes value (take 16 buffer)
  pub only : (bs : List ℕ) → Encodes value bs → bs ≡ take 16 buffer
  pub reads : read_at buffer 0 ≡ Ok (Some value)

-- a value is written, and read back; it is refused only where no bytes encode it or the buffer is short
abbrev pub Encoded : Record → List ℕ → List ℕ → Result (Unit {0}) SheetFault → Type 0
Encoded value old new (Ok _) = RoundTrip value new
Encoded value old new (Err fault) = (bs : List ℕ) → Encodes value bs → length old < 16

-- a value passes exactly where some bytes encode it
abbrev pub Encodable : Record → Result (Unit {0}) RecordFault → Type 0
Encodable value (Ok _) = Encodes value (encoding value)
Encodable value (Err fault) = (bs : List ℕ) → Encodes value bs → ⊥

-- the word of a value, or why it has none
abbrev pub Worded : Record → Result ℕ RecordFault → Type 0
Worded value (Ok word) = (checked value ≡ Ok tt) × (word ≡ word_as (kind_of value) (figures_of value))
Worded value (Err fault) = checked value ≡ Err (record_refusal fault)
