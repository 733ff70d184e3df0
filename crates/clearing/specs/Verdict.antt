-- What the check answers: as a function, and what it says of the outcome.
use Rattle.std.specs.Prelude.{◌≡◌, ℕ, suc, Bool, cond, List, [], ◌∷◌, ◌-ℤ◌, Some, None, Ok, Err, Option, Result}
use Rattle.std.specs.List.{AllByRecursion}
use Rattle.limits.specs.Limits.{price_limit}
use Rattle.names.specs.declared.lists.ListName.{ListName}
use Rattle.faults.specs.Refusals.{clearing_refusal, told}
use Rattle.faults.specs.declared.ClearingFault.{ClearingFault}
use Rattle.faults.specs.declared.ClearingFault.TheVariants.{Misfit, PriceOutOfRange, Breach, Uncovered}
use Rattle.faults.specs.declared.ParticipantRule.{ParticipantRule}
use Rattle.faults.specs.declared.ParticipantRule.TheVariants.{Lawful, StrictForgoesNothing, LenientLosesNothing}
use Rattle.faults.specs.declared.Refusal.{Refusal}
use Rattle.market.specs.Tests.{Within}
use Rattle.market.specs.Cells.{FirstCell, InRange, Table, first_cell, price_fits}
use Rattle.market.specs.declared.cells.Cell.{Cell}
use Rattle.clearing.specs.Seats.{Fits, NamedList, Seat, cost, fits, forgone, joined}
use Rattle.clearing.specs.Rules.{AllKeep, Covered, Covers, FirstList, FirstPlace, Keeps, CostAtLeast, covered, keeps}
use Rattle.clearing.specs.declared.outcome.Accepted.{Accepted}

abbrev pub Step : Type 0
Step = Result (Unit {0}) ClearingFault

-- a number in a list with one more in front
abbrev pub next : Option ℕ → Option ℕ
next None = None
next (Some n) = Some (suc n)

-- the first seat that fails a test, by its number
unfoldable pub first_failing : (Seat → Bool) → List Seat → Option ℕ
first_failing t [] = None
first_failing t (s ∷ ss) = cond (t s) (next (first_failing t ss)) (Some 0)

-- a step is tried where all before it passed
abbrev pub and_then : {X : Type 0} → Step → Result X ClearingFault → Result X ClearingFault
and_then (Ok _) later = later
and_then (Err fault) later = Err fault

-- where a step passes, the answer has what stands for x; else it has the step's fault
abbrev pub Passes : {X Y : Type 0} → Step → (Y → X) → X → Result Y ClearingFault → Type 0
Passes step of x (Ok y) = (step ≡ Ok tt) × (of y ≡ x)
Passes step of x (Err fault) = step ≡ Err fault

-- 19 at the first list that does not fit
abbrev pub fitted : NamedList → Step
fitted list = cond (fits list) (Ok tt) (Err (Misfit list.name))

abbrev pub sized : List NamedList → Step
sized [] = Ok tt
sized (list ∷ lists) = and_then (fitted list) (sized lists)

-- 20 at the first price out of its range
abbrev pub or_mispriced : Option Cell → Step
or_mispriced None = Ok tt
or_mispriced (Some cell) = Err (PriceOutOfRange cell.zone cell.quarter)

abbrev pub priced : Table → Step
priced p = or_mispriced (first_cell (price_fits p))

-- 21, 23 and 24 at the first participant that breaks the rule
abbrev pub or_breach : ParticipantRule → ListName → Option ℕ → Step
or_breach rule name None = Ok tt
or_breach rule name (Some n) = Err (Breach rule name n)

abbrev pub kept_in : ParticipantRule → Table → NamedList → Step
kept_in rule p list = or_breach rule list.name (first_failing (keeps rule p) list.seats)

abbrev pub kept : ParticipantRule → Table → List NamedList → Step
kept rule p [] = Ok tt
kept rule p (list ∷ lists) = and_then (kept_in rule p list) (kept rule p lists)

-- 22 at the first cell that is not covered
abbrev pub or_uncovered : Option Cell → Step
or_uncovered None = Ok tt
or_uncovered (Some cell) = Err (Uncovered cell.zone cell.quarter)

abbrev pub covering : Table → List NamedList → Step
covering need lists = or_uncovered (first_cell (covered need (joined lists)))

-- what an accepted outcome states
abbrev pub stated : Table → List Seat → Accepted
stated p ss = record { cost = cost ss; forgone = forgone p ss }

abbrev pub ruled : Table → Table → List NamedList → Result Accepted ClearingFault
ruled need p lists =
    and_then (kept Lawful p lists) (and_then (covering need lists) (and_then (kept StrictForgoesNothing p lists) (and_then (kept LenientLosesNothing p lists)
    (Ok (stated p (joined lists))))))

-- the answer
abbrev pub judged : Table → Table → List NamedList → Result Accepted ClearingFault
judged need p lists = and_then (sized lists) (and_then (priced p) (ruled need p lists))

-- nothing is wrong with the lists and the prices, and no rule is broken
pub record Clears (need p : Table) (lists : List NamedList) : Type 0 where
  pub lists_fit : AllByRecursion Fits lists
  pub prices_in_range : InRange p
  pub all_lawful : AllKeep Lawful p (joined lists)
  pub needs_covered : Covers need (joined lists)
  pub strict_forgo_nothing : AllKeep StrictForgoesNothing p (joined lists)
  pub lenient_lose_nothing : AllKeep LenientLosesNothing p (joined lists)

-- the lists fit and the prices are in range; and the schedules are lawful and cover the needs
abbrev pub WellPosed : Table → List NamedList → Type 0
WellPosed p lists = AllByRecursion Fits lists × InRange p

abbrev pub Feasible : Table → Table → List NamedList → Type 0
Feasible need p lists = WellPosed p lists × AllKeep Lawful p (joined lists) × Covers need (joined lists)

-- what is tried before a participant's rule, everywhere
abbrev pub Earlier : ParticipantRule → Table → Table → List NamedList → Type 0
Earlier Lawful need p lists = WellPosed p lists
Earlier StrictForgoesNothing need p lists = Feasible need p lists
Earlier LenientLosesNothing need p lists = Feasible need p lists × AllKeep StrictForgoesNothing p (joined lists)

-- a fault is the first: all that is tried before it is in order, and it stands at the first place where it applies
abbrev pub IsFirst : Table → Table → List NamedList → ClearingFault → Type 0
IsFirst need p lists (Misfit name) = FirstList Fits lists name
IsFirst need p lists (PriceOutOfRange zone quarter) = AllByRecursion Fits lists × FirstCell (λ z q. Within price_limit (p z q)) (record { zone = zone; quarter = quarter })
IsFirst need p lists (Breach rule name n) = Earlier rule need p lists × FirstPlace (Keeps rule p) lists name n
IsFirst need p lists (Uncovered zone quarter) = WellPosed p lists × AllKeep Lawful p (joined lists) × FirstCell (Covered need (joined lists)) (record { zone = zone; quarter = quarter })

-- an answer is exact: it accepts just what clears, with its cost and forgone surplus, and names a fault just where it is the first
pub record Exact (need p : Table) (lists : List NamedList) (answer : Result Accepted ClearingFault) : Type 0 where
  pub accepts_what_clears : Clears need p lists → answer ≡ Ok (stated p (joined lists))
  pub clears_what_is_accepted : (accepted : Accepted) → answer ≡ Ok accepted → Clears need p lists × (accepted ≡ stated p (joined lists))
  pub names_the_first : (fault : ClearingFault) → IsFirst need p lists fault → answer ≡ Err fault
  pub first_is_named : (fault : ClearingFault) → answer ≡ Err fault → IsFirst need p lists fault

-- the same of an answer as it is told: a refusal is that of the first fault, with its number, layer and places
pub record Refuses (need p : Table) (lists : List NamedList) (answer : Result Accepted Refusal) : Type 0 where
  pub refuses_the_first : (fault : ClearingFault) → IsFirst need p lists fault → answer ≡ Err (clearing_refusal fault)
  pub first_is_refused : (refusal : Refusal) → answer ≡ Err refusal → (fault : ClearingFault) × (refusal ≡ clearing_refusal fault) × IsFirst need p lists fault

-- whatever lawful outcome of the same participants covers the same needs, it costs at least the stated cost less the stated forgone surplus
abbrev pub BoundsCosts : Table → List NamedList → Result Accepted ClearingFault → Type 0
BoundsCosts need lists (Ok accepted) = CostAtLeast need (joined lists) (accepted.cost -ℤ accepted.forgone)
BoundsCosts need lists (Err fault) = Unit {0}

-- what the check promises of its answer
pub record Checked (need p : Table) (lists : List NamedList) (answer : Result Accepted ClearingFault) : Type 0 where
  pub laid_down : answer ≡ judged need p lists
  pub exact : Exact need p lists answer
  pub refuses : Refuses need p lists (told clearing_refusal answer)
  pub bounds_costs : BoundsCosts need lists answer
