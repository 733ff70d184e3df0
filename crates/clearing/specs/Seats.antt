-- An outcome's schedules: each participant with its own, one list after the other.
use Rattle.std.specs.Prelude.{◌≡◌, ℕ, ◌+◌, ◌*◌, ◌≤◌, Bool, ◌&&◌, List, [], ◌∷◌, ◌++◌, map, length, ℤ, ◌-ℤ◌, ◌==◌, nat_le}
use Rattle.limits.specs.Limits.{cost_limit, effect_limit, list_limit}
use Rattle.names.specs.declared.lists.ListName.{ListName}
use Rattle.names.specs.declared.lists.ListName.TheVariants.{Ordinary, Whole, Corridors}
use Rattle.market.specs.Sums.{sum_over}
use Rattle.market.specs.Tests.{Within}
use Rattle.market.specs.Cells.{Table}
use Rattle.market.specs.Kinds.{Kind, best_limit, surplus, surplus_limit}
use Rattle.market.specs.declared.schedule.Schedule.{Schedule}
use Rattle.market.specs.declared.surplus.Seat.{Seat as Lent}
use Rattle.clearing.specs.declared.fitted.Fitted.{Fitted}
use Rattle.clearing.specs.declared.fitted.FittedLists.{FittedLists}
use Rattle.clearing.specs.declared.outcome.Scheduled.{Scheduled}
use Rattle.clearing.specs.declared.outcome.Lists.{Lists}

-- a participant and the schedule that the outcome gives it
pub record Seat : Type 0 where
  pub kind : Kind
  pub schedule : List ℤ

abbrev pub seat : Kind → List ℤ → Seat
seat k s = record { kind = k; schedule = s }

-- the same of a participant and a schedule as the code lends them
abbrev pub taken : {X : Type 0} → (X → Kind) → Lent X → Seat
taken kind s = seat (kind s.participant.now) s.schedule.now.megawatts

-- what a closure answers of each participant with its schedule, as a function of the seat
abbrev pub Amounts : {X : Type 0} → (X → Kind) → (Lent X → ℤ → Type 0) → (Seat → ℤ) → Type 0
Amounts {X} kind gives f = (s : Lent X) (r : ℤ) → gives s r → r ≡ f (taken kind s)

-- each answer of it is within a limit
abbrev pub Small : {X : Type 0} → (Lent X → ℤ → Type 0) → ℕ → Type 0
Small {X} gives limit = (s : Lent X) (r : ℤ) → gives s r → Within limit r

-- the participants of a list, each with its schedule
unfoldable pub seats : {X : Type 0} → (X → Kind) → List X → List Schedule → List Seat
seats kind [] ss = []
seats kind (x ∷ xs) [] = []
seats kind (x ∷ xs) (s ∷ ss) = seat (kind x) s.megawatts ∷ seats kind xs ss

-- a list that is put to the check: its name, how many participants and schedules it has, and its seats
pub record NamedList : Type 0 where
  pub name : ListName
  pub participants : ℕ
  pub schedules : ℕ
  pub seats : List Seat

abbrev pub named : {X : Type 0} → ListName → (X → Kind) → List X → List Schedule → NamedList
named name' kind xs ss = record { name = name'; participants = length xs; schedules = length ss; seats = seats kind xs ss }

-- a list as it is lent
abbrev pub lent : {X : Type 0} → ListName → (X → Kind) → Scheduled X → NamedList
lent name kind list = named name kind list.participants.now list.schedules.now

-- the lists in their order: this is the one place that gives each list its name
abbrev pub lists_of : {X Y Z : Type 0} → (X → Kind) → (Y → Kind) → (Z → Kind) → Lists X Y Z → List NamedList
lists_of one two three lists = lent Ordinary one lists.ordinary ∷ lent Whole two lists.whole ∷ lent Corridors three lists.corridors ∷ []

-- the same of a list that fits, and of lists that fit: they bring their names
abbrev pub fit_list : {X : Type 0} → (X → Kind) → Fitted X → NamedList
fit_list kind list = named list.name kind list.participants.now list.schedules.now

abbrev pub fit_lists : {X Y Z : Type 0} → (X → Kind) → (Y → Kind) → (Z → Kind) → FittedLists X Y Z → List NamedList
fit_lists one two three lists = fit_list one lists.ordinary ∷ fit_list two lists.whole ∷ fit_list three lists.corridors ∷ []

-- all seats, one list after the other
abbrev pub joined : List NamedList → List Seat
joined [] = []
joined (list ∷ lists) = list.seats ++ joined lists

-- a list has at most so many participants, and a schedule for each
abbrev pub FitSizes : ℕ → ℕ → Type 0
FitSizes participants schedules = (participants ≤ list_limit) × (schedules ≡ participants)

abbrev pub fit_sizes : ℕ → ℕ → Bool
fit_sizes participants schedules = nat_le participants list_limit && schedules == participants

abbrev pub Fits : NamedList → Type 0
Fits list = FitSizes list.participants list.schedules

abbrev pub fits : NamedList → Bool
fits list = fit_sizes list.participants list.schedules

abbrev pub fitting : {X : Type 0} → Scheduled X → Bool
fitting list = fit_sizes (length list.participants.now) (length list.schedules.now)

-- a participant's own surplus, and what it forgoes: its best surplus less its own
abbrev pub own : Table → Seat → ℤ
own p s = surplus s.kind p s.schedule

abbrev pub forgoes : Table → Seat → ℤ
forgoes p s = s.kind.best p -ℤ own p s

-- the cost of an outcome, and its forgone surplus
abbrev pub cost_in : Seat → ℤ
cost_in s = s.kind.cost s.schedule

abbrev pub cost : List Seat → ℤ
cost ss = sum_over cost_in ss

abbrev pub forgone : Table → List Seat → ℤ
forgone p ss = sum_over (forgoes p) ss

-- how large these can be for one participant and for a list that fits, at prices of 32 bits
abbrev pub forgoes_limit : ℕ
forgoes_limit = best_limit + surplus_limit

abbrev pub list_cost_limit : ℕ
list_cost_limit = list_limit * cost_limit

abbrev pub list_effect_limit : ℕ
list_effect_limit = list_limit * effect_limit

abbrev pub list_forgone_limit : ℕ
list_forgone_limit = list_limit * forgoes_limit

-- what a participant adds to a cell, and all together
abbrev pub effect_in : ℕ → ℕ → Seat → ℤ
effect_in z q s = s.kind.effect s.schedule z q

abbrev pub effect : List Seat → Table
effect ss z q = sum_over (effect_in z q) ss

-- the kinds of the participants: what two outcomes of the same participants have in common
abbrev pub kinds_of : List Seat → List Kind
kinds_of ss = map (λ s. s.kind) ss
