-- The text lines of a statement: the word of the line, then its fields, each behind one space, and a newline.
use Rattle.std.specs.Prelude.{ℕ, List, ◌++◌, length, Some, None, Ok, Err, codes, decimal, Option, Result, nat_le}
use Rattle.faults.specs.Refusals.{record_refusal}
use Rattle.faults.specs.declared.RecordFault.TheVariants.{OtherKind}
use Rattle.faults.specs.declared.Refusal.{Refusal}
use Rattle.faults.specs.declared.SheetFault.{SheetFault}
use Rattle.names.specs.Names.{list_number, total_number}
use Rattle.records.specs.Writing.{checked, then_room}
use Rattle.values.specs.declared.value.LineRecord.{LineRecord}
use Rattle.values.specs.declared.value.Record.{Record}
use Rattle.values.specs.declared.value.Record.TheVariants as r
use Rattle.values.specs.declared.value.TotalRecord.{TotalRecord}
use Rattle.text.specs.Text.{field, money, put}

-- list, number, payment and deduction of a bid
abbrev pub bid_line : LineRecord → List ℕ
bid_line x =
    codes "bid" ++ (field (decimal (list_number x.list)) ++ (field (decimal x.number)
    ++ (field (money x.payment) ++ (field (money x.deduction) ++ codes "\n"))))

-- which total, and its value
abbrev pub total_line : TotalRecord → List ℕ
total_line x = codes "total" ++ (field (decimal (total_number x.which)) ++ (field (money x.value) ++ codes "\n"))

-- the text of a record, where it has one
abbrev pub text_of : Record → Option (List ℕ)
text_of r.Blank = None
text_of (r.Zone x) = None
text_of (r.Ordinary x) = None
text_of (r.Whole x) = None
text_of (r.Corridor x) = None
text_of (r.Withdrawal x) = None
text_of (r.Prices x) = None
text_of (r.Schedule x) = None
text_of (r.Meter x) = None
text_of (r.Line x) = Some (bid_line x)
text_of (r.Total x) = Some (total_line x)
text_of (r.Header x) = None

abbrev pub then_length : List ℕ → Result (Unit {0}) Refusal → Result ℕ Refusal
then_length text (Ok _) = Ok (length text)
then_length text (Err refusal) = Err refusal

-- 7 for a record without a text, then 4, then 16 under 64 bytes
abbrev pub answer_for : Option (List ℕ) → Record → ℕ → Result ℕ Refusal
answer_for None value size = Err (record_refusal (OtherKind 0))
answer_for (Some text) value size = then_length text (then_room (nat_le 64 size) (checked value))

-- the answer to writing the text of a record into a buffer of so many bytes: the text's length
abbrev pub line_answer : Record → ℕ → Result ℕ Refusal
line_answer value size = answer_for (text_of value) value size

abbrev pub with_text : Option (List ℕ) → List ℕ → List ℕ
with_text None old = old
with_text (Some text) old = put old 0 text

-- the buffer afterwards: the text at its front, or, where refused, as it was
abbrev pub line_written : Record → List ℕ → Result ℕ SheetFault → List ℕ
line_written value old (Ok n) = with_text (text_of value) old
line_written value old (Err fault) = old
