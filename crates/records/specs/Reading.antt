-- What reading gives for every section and position.
use Rattle.std.specs.Prelude.{◌≡◌, ℕ, ◌+◌, ◌*◌, ◌/◌, ◌%◌, ◌^◌, Bool, true, false, cond, List, length, take, drop, pos, Some, None, Ok, Err, Option, Result, ◌==◌, nat_le, nat_lt}
use Rattle.std.specs.Int.Digits.{number_from_digits}
use Rattle.faults.specs.Refusals.{byte_refusal, record_refusal}
use Rattle.faults.specs.declared.ByteFault.TheVariants.{Cut}
use Rattle.faults.specs.declared.RecordFault.{RecordFault}
use Rattle.faults.specs.declared.RecordFault.TheVariants.{UnknownKind, OutOfRange, Padding}
use Rattle.faults.specs.declared.Refusal.{Refusal}
use Rattle.layout.specs.Layout.{fields_of, kind_at}
use Rattle.layout.specs.Packing.{figures_in, first_out_of_range, padding}
use Rattle.layout.specs.declared.kind.Kind.{Kind}
use Rattle.records.specs.Encoding.{Encodes}
use Rattle.values.specs.Values.{record_of}
use Rattle.values.specs.declared.value.Record.{Record}

-- a value whose figures are in range, at position p: 5 where the padding is not zero
abbrev pub if_padded : ℕ → Record → Bool → Result Record Refusal
if_padded p value true = Ok value
if_padded p value false = Err (record_refusal (Padding p))

-- 4 at the first field out of range
abbrev pub if_in_range : ℕ → Kind → ℕ → Option ℕ → Result Record Refusal
if_in_range p kind word (Some field) = Err (record_refusal (OutOfRange p field))
if_in_range p kind word None = if_padded p (record_of kind (figures_in (fields_of kind) 124 word)) (word % 2 ^ padding kind == 0)

-- 3 where no kind has the number
abbrev pub if_known : ℕ → ℕ → Option Kind → Result Record Refusal
if_known p word None = Err (record_refusal (UnknownKind p))
if_known p word (Some kind) = if_in_range p kind word (first_out_of_range (fields_of kind) 0 (figures_in (fields_of kind) 124 word))

-- the record that a word holds, at position p
abbrev pub read_word : ℕ → ℕ → Result Record Refusal
read_word p word = if_known p word (kind_at (pos (word / 2 ^ 124)))

-- the bytes of the record at position p
abbrev pub bytes_at : List ℕ → ℕ → List ℕ
bytes_at s p = take 16 (drop (16 * p) s)

-- the word at position p: none at the end, and 2 where 1 to 15 bytes are left
abbrev pub word_at : List ℕ → ℕ → Result (Option ℕ) Refusal
word_at s p =
    cond (nat_le (length s) (16 * p)) (Ok None)
    (cond (nat_lt (length s) (16 * p + 16)) (Err (byte_refusal (Cut p))) (Ok (Some (number_from_digits 256 (bytes_at s p)))))

abbrev pub some_record : Result Record Refusal → Result (Option Record) Refusal
some_record (Ok value) = Ok (Some value)
some_record (Err refusal) = Err refusal

abbrev pub then_read : ℕ → Result (Option ℕ) Refusal → Result (Option Record) Refusal
then_read p (Ok None) = Ok None
then_read p (Ok (Some word)) = some_record (read_word p word)
then_read p (Err refusal) = Err refusal

-- the record at position p of a section
abbrev pub read_at : List ℕ → ℕ → Result (Option Record) Refusal
read_at s p = then_read p (word_at s p)

-- the first word of a section: 2 where there is none
abbrev pub or_cut : Result (Option ℕ) Refusal → Result ℕ Refusal
or_cut (Ok None) = Err (byte_refusal (Cut 0))
or_cut (Ok (Some word)) = Ok word
or_cut (Err refusal) = Err refusal

abbrev pub first_word : List ℕ → Result ℕ Refusal
first_word s = or_cut (word_at s 0)

abbrev pub then_first : Result ℕ Refusal → Result Record Refusal
then_first (Ok word) = read_word 0 word
then_first (Err refusal) = Err refusal

-- the first record of a section
abbrev pub first_record : List ℕ → Result Record Refusal
first_record s = then_first (first_word s)

-- reading at position p gives a value exactly where the bytes there encode it
abbrev pub Exactly : List ℕ → ℕ → Result (Option Record) RecordFault → Type 0
Exactly s p answer = (v : Record) → (Encodes v (bytes_at s p) → answer ≡ Ok (Some v)) × (answer ≡ Ok (Some v) → Encodes v (bytes_at s p))

abbrev pub ExactFirst : List ℕ → Result Record RecordFault → Type 0
ExactFirst s answer = (v : Record) → (Encodes v (take 16 s) → answer ≡ Ok v) × (answer ≡ Ok v → Encodes v (take 16 s))

-- where a reader stands after an answer: behind the record that it gave, else where it was
abbrev pub advanced : ℕ → Result (Option Record) RecordFault → ℕ
advanced p (Ok (Some value)) = p + 1
advanced p (Ok None) = p
advanced p (Err fault) = p
