-- The refusal of each fault: its number, its layer and two places. Every promise about a refusal goes through here.
use Rattle.std.specs.Prelude.{ℕ, Ok, Err, Result}
use Rattle.names.specs.Names.{list_number}
use Rattle.faults.specs.declared.ByteFault.{ByteFault}
use Rattle.faults.specs.declared.ByteFault.TheVariants.{Cut}
use Rattle.faults.specs.declared.ClearingFault.{ClearingFault}
use Rattle.faults.specs.declared.ClearingFault.TheVariants.{Misfit, PriceOutOfRange, Breach, Uncovered}
use Rattle.faults.specs.declared.Layer.{Layer}
use Rattle.faults.specs.declared.Layer.TheVariants as layer
use Rattle.faults.specs.declared.ParticipantRule.{ParticipantRule}
use Rattle.faults.specs.declared.ParticipantRule.TheVariants.{Lawful, StrictForgoesNothing, LenientLosesNothing}
use Rattle.faults.specs.declared.RecordFault.{RecordFault}
use Rattle.faults.specs.declared.RecordFault.TheVariants.{Bytes, UnknownKind, OutOfRange, Padding, OtherKind}
use Rattle.faults.specs.declared.Refusal.{Refusal}
use Rattle.faults.specs.declared.SheetFault.{SheetFault}
use Rattle.faults.specs.declared.SheetFault.TheVariants.{Record, Clearing, NoRoom}

-- the number that a layer is told by
abbrev pub layer_number : Layer → ℕ
layer_number layer.Bytes = 1
layer_number layer.Records = 2
layer_number layer.Sheet = 3

-- a refusal of a layer, at two places, 0 where none is named
abbrev pub at : Layer → ℕ → ℕ → ℕ → Refusal
at layer n place other = record { number = n; layer = layer; first = place; second = other }

abbrev pub byte_refusal : ByteFault → Refusal
byte_refusal (Cut position) = at layer.Bytes 2 position 0

abbrev pub record_refusal : RecordFault → Refusal
record_refusal (Bytes fault) = byte_refusal fault
record_refusal (UnknownKind position) = at layer.Records 3 position 0
record_refusal (OutOfRange position field) = at layer.Records 4 position field
record_refusal (Padding position) = at layer.Records 5 position 0
record_refusal (OtherKind position) = at layer.Records 7 position 0

-- the number of the refusal where a participant breaks a clearing rule
abbrev pub rule_number : ParticipantRule → ℕ
rule_number Lawful = 21
rule_number StrictForgoesNothing = 23
rule_number LenientLosesNothing = 24

-- participants are placed by list and number, cells by zone and quarter
abbrev pub clearing_refusal : ClearingFault → Refusal
clearing_refusal (Misfit list) = at layer.Sheet 19 (list_number list) 0
clearing_refusal (PriceOutOfRange zone quarter) = at layer.Sheet 20 zone quarter
clearing_refusal (Breach rule list number) = at layer.Sheet (rule_number rule) (list_number list) number
clearing_refusal (Uncovered zone quarter) = at layer.Sheet 22 zone quarter

abbrev pub sheet_refusal : SheetFault → Refusal
sheet_refusal (Record fault) = record_refusal fault
sheet_refusal (Clearing fault) = clearing_refusal fault
sheet_refusal NoRoom = at layer.Sheet 16 0 0

-- an answer as it is told: the value that was granted, or the refusal of the fault
abbrev pub told : {X F : Type 0} → (F → Refusal) → Result X F → Result X Refusal
told refusal (Ok x) = Ok x
told refusal (Err fault) = Err (refusal fault)
