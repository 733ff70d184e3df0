-- The answer is exact: it accepts just what clears, and names a fault just where it is the first.
use Rattle.std.proofs.Common.{◌≡◌, ℕ, zero, suc, ◌<◌, Bool, true, false, not, eqb, leb, ◌⊎◌, List, [], ◌∷◌, ◌++◌, ℤ, pos, ◌-ℤ◌, ◌≤ℤ◌, Some, None, Ok, Err, Option, Result, sym, refl, ap, ◌∙◌, subst, inl, inr, arith}
use lib.Signed.{le_z}
use Rattle.std.proofs.ByRecursion.{All-append}
use Rattle.std.proofs.lemmas.Int.{ints}
use Rattle.std.proofs.lemmas.Bool.{and_from, and_parts, both_ways, cases_Bool, cond-false, cond-true, eq-eqb, eqb-true, le-leb, leb-true, not-false, not-true, or_cases, or_parts}
use Rattle.std.specs.List.{AllByRecursion}
use Rattle.limits.specs.Limits.{list_limit, price_limit, quarters, zones}
use Rattle.names.specs.declared.lists.ListName.{ListName}
use Rattle.faults.specs.Refusals.{clearing_refusal, told}
use Rattle.faults.specs.declared.ClearingFault.{ClearingFault}
use Rattle.faults.specs.declared.ClearingFault.TheVariants.{Misfit, PriceOutOfRange, Breach, Uncovered}
use Rattle.faults.specs.declared.ParticipantRule.{ParticipantRule}
use Rattle.faults.specs.declared.ParticipantRule.TheVariants.{Lawful, StrictForgoesNothing, LenientLosesNothing}
use Rattle.market.specs.Tests.{Within, same_ℤ}
use Rattle.market.specs.Cells.{EveryCellOrFirst, FirstCell, InRange, Table, first_cell, price_fits}
use Rattle.market.specs.Kinds.{Sound}
use Rattle.market.specs.declared.cells.Cell.{Cell}
use Rattle.market.proofs.Searches.{every_cell_none, every_cell_or_first, first_cell_found}
use Rattle.market.proofs.Tests.{same_fails, same_out, within_fails, within_out}
use Rattle.clearing.specs.Seats.{Fits, NamedList, Seat, effect, fits, forgoes, joined, kinds_of, own}
use Rattle.clearing.specs.Rules.{AllKeep, CostAtLeast, Covered, Covers, First, FirstList, FirstPlace, Keeps, covered, keeps}
use Rattle.clearing.specs.Verdict.{BoundsCosts, Checked, Clears, Exact, IsFirst, Refuses, Step, and_then, covering, first_failing, fitted, judged, kept, kept_in, or_breach, or_mispriced, or_uncovered, priced, ruled, sized, stated}
use Rattle.clearing.specs.declared.outcome.Accepted.{Accepted}
use Rattle.clearing.proofs.CostBound.{cost_at_least}
use Rattle.clearing.proofs.SeatLaws.{first_fails, none_fails}

-- ---- the tests say what the rules say
keeps_holds : (rule : ParticipantRule) (p : Table) (s : Seat) → keeps rule p s ≡ true → Keeps rule p s
keeps_holds Lawful p s e = e
keeps_holds StrictForgoesNothing p s e =
    λ strict. elim (or_cases (not s.kind.strict) (same_ℤ (forgoes p s) (pos 0)) e) [
      | inl lenient ↦ absurd (both_ways s.kind.strict (not-true s.kind.strict lenient) strict)
      | inr same ↦ same_out (forgoes p s) (pos 0) same
    ]
keeps_holds LenientLosesNothing p s e =
    λ lenient. elim (or_cases s.kind.strict (le_z (pos 0) (own p s)) e) [
      | inl strict ↦ absurd (both_ways s.kind.strict lenient strict)
      | inr more ↦ at_least (own p s) more
    ]
  where
    at_least : (a : ℤ) → le_z (pos 0) a ≡ true → pos 0 ≤ℤ a
    at_least a h = omega (arith, ints)

keeps_broken : (rule : ParticipantRule) (p : Table) (s : Seat) → keeps rule p s ≡ false → ¬ (Keeps rule p s)
keeps_broken Lawful p s e h = both_ways (s.kind.lawful s.schedule) e h
keeps_broken StrictForgoesNothing p s e h =
    let parts = or_parts (not s.kind.strict) (same_ℤ (forgoes p s) (pos 0)) e in
    same_fails (forgoes p s) (pos 0) parts.1 (h (not-false s.kind.strict parts.0))
keeps_broken LenientLosesNothing p s e h =
    let parts = or_parts s.kind.strict (le_z (pos 0) (own p s)) e in
    below (own p s) parts.1 (h parts.0)
  where
    below : (a : ℤ) → le_z (pos 0) a ≡ false → ¬ (pos 0 ≤ℤ a)
    below a f l = omega (arith, ints)

fits_holds : (list : NamedList) → fits list ≡ true → Fits list
fits_holds list e =
    let both = and_parts (leb list.participants list_limit) (eqb list.schedules list.participants) e in
    (leb-true list.participants list_limit both.0, eqb-true list.schedules list.participants both.1)

fits_true : (list : NamedList) → Fits list → fits list ≡ true
fits_true list (few, same) = and_from (leb list.participants list_limit) (eqb list.schedules list.participants) (le-leb list.participants list_limit few) (eq-eqb list.schedules list.participants same)

fits_broken : (list : NamedList) → fits list ≡ false → ¬ (Fits list)
fits_broken list e h = both_ways (fits list) e (fits_true list h)

-- ---- all seats, or a first one
module _ (P : Seat → Type 0) (t : Seat → Bool) (holds : (s : Seat) → t s ≡ true → P s) (broken : (s : Seat) → t s ≡ false → ¬ (P s)) where
  true_where : (s : Seat) → P s → t s ≡ true
  true_where s p =
      elim (cases_Bool (t s)) [
        | inl yes' ↦ yes'
        | inr no' ↦ absurd (broken s no' p)
      ]

  all_true : (ss : List Seat) → AllByRecursion P ss → AllByRecursion (λ s. t s ≡ true) ss
  all_true [] all = tt
  all_true (s ∷ ss) all = (true_where s all.0, all_true ss all.1)

  first_true : (ss : List Seat) (n : ℕ) → First P ss n → First (λ s. t s ≡ true) ss n
  first_true [] n first = elim first [ ]
  first_true (s ∷ ss) zero first = λ e. first (holds s e)
  first_true (s ∷ ss) (suc n) (here, later) = (true_where s here, first_true ss n later)

  none_failing : (ss : List Seat) → AllByRecursion P ss → first_failing t ss ≡ None
  none_failing ss all = none_fails t ss (all_true ss all)

  first_failing_lem : (ss : List Seat) (n : ℕ) → First P ss n → first_failing t ss ≡ Some n
  first_failing_lem ss n first = first_fails t ss n (first_true ss n first)

  all_or_first : (ss : List Seat) → AllByRecursion P ss ⊎ ((n : ℕ) × First P ss n)
  all_or_first [] = inl tt
  all_or_first (s ∷ ss) =
      elim (cases_Bool (t s)) [
        | inl yes' ↦ (elim (all_or_first ss) [
          | inl all ↦ inl (holds s yes', all)
          | inr (n, first) ↦ inr (suc n, (holds s yes', first))
        ])
        | inr no' ↦ inr (zero, broken s no')
      ]

  all_or_place : (lists : List NamedList) → AllByRecursion P (joined lists) ⊎ ((name : ListName) × (n : ℕ) × FirstPlace P lists name n)
  all_or_place [] = inl tt
  all_or_place (list ∷ lists) =
      elim (all_or_first list.seats) [
        | inl all ↦ (elim (all_or_place lists) [
          | inl rest ↦ inl (All-append P list.seats (joined lists) all rest)
          | inr (name, n, place) ↦ inr (name, n, inr (all, place))
        ])
        | inr (n, first) ↦ inr (list.name, n, inl (refl, first))
      ]

all_parts : (P : Seat → Type 0) (xs ys : List Seat) → AllByRecursion P (xs ++ ys) → AllByRecursion P xs × AllByRecursion P ys
all_parts P [] ys all = (tt, all)
all_parts P (x ∷ xs) ys all = let rest = all_parts P xs ys all.1 in ((all.0, rest.0), rest.1)

-- ---- one step and what follows
pub then_ok : {X : Type 0} (step : Step) (later : Result X ClearingFault) → step ≡ Ok tt → and_then step later ≡ later
then_ok step later e = ap (λ s. and_then s later) e

pub then_err : {X : Type 0} (step : Step) (later : Result X ClearingFault) (fault : ClearingFault) → step ≡ Err fault → and_then step later ≡ Err fault
then_err step later fault e = ap (λ s. and_then s later) e

-- ---- each step passes where its proposition holds, and refuses at the first place where it does not
sized_ok : (lists : List NamedList) → AllByRecursion Fits lists → sized lists ≡ Ok tt
sized_ok [] all = refl
sized_ok (list ∷ lists) all = then_ok (fitted list) (sized lists) (cond-true (fits list) (Ok tt) (Err (Misfit list.name)) (fits_true list all.0)) ∙ sized_ok lists all.1

fits_false : (list : NamedList) → ¬ (Fits list) → fits list ≡ false
fits_false list n =
    elim (cases_Bool (fits list)) [
      | inl yes' ↦ absurd (n (fits_holds list yes'))
      | inr no' ↦ no'
    ]

sized_err : (lists : List NamedList) (name : ListName) → FirstList Fits lists name → sized lists ≡ Err (Misfit name)
sized_err [] name first = elim first [ ]
sized_err (list ∷ lists) name (inl (same, bad)) = then_err (fitted list) (sized lists) (Misfit list.name) (cond-false (fits list) (Ok tt) (Err (Misfit list.name)) (fits_false list bad)) ∙ ap (λ l. Err (Misfit l)) (sym same)
sized_err (list ∷ lists) name (inr (fit, later)) = then_ok (fitted list) (sized lists) (cond-true (fits list) (Ok tt) (Err (Misfit list.name)) (fits_true list fit)) ∙ sized_err lists name later

sized_decided : (lists : List NamedList) → AllByRecursion Fits lists ⊎ ((name : ListName) × FirstList Fits lists name)
sized_decided [] = inl tt
sized_decided (list ∷ lists) =
    elim (cases_Bool (fits list)) [
      | inl yes' ↦ (elim (sized_decided lists) [
        | inl all ↦ inl (fits_holds list yes', all)
        | inr (name, first) ↦ inr (name, inr (fits_holds list yes', first))
      ])
      | inr no' ↦ inr (list.name, inl (refl, fits_broken list no'))
    ]

kept_ok : (rule : ParticipantRule) (p : Table) (lists : List NamedList) → AllKeep rule p (joined lists) → kept rule p lists ≡ Ok tt
kept_ok rule p [] all = refl
kept_ok rule p (list ∷ lists) all =
    let parts = all_parts (Keeps rule p) list.seats (joined lists) all in
    then_ok (kept_in rule p list) (kept rule p lists) (ap (or_breach rule list.name) (none_failing (Keeps rule p) (keeps rule p) (keeps_holds rule p) (keeps_broken rule p) list.seats parts.0))
    ∙ kept_ok rule p lists parts.1

kept_err : (rule : ParticipantRule) (p : Table) (lists : List NamedList) (name : ListName) (n : ℕ) → FirstPlace (Keeps rule p) lists name n → kept rule p lists ≡ Err (Breach rule name n)
kept_err rule p [] name n first = elim first [ ]
kept_err rule p (list ∷ lists) name n (inl (same, first)) =
    then_err (kept_in rule p list) (kept rule p lists) (Breach rule list.name n) (ap (or_breach rule list.name) (first_failing_lem (Keeps rule p) (keeps rule p) (keeps_holds rule p) (keeps_broken rule p) list.seats n first))
    ∙ ap (λ l. Err (Breach rule l n)) (sym same)
kept_err rule p (list ∷ lists) name n (inr (all, later)) =
    then_ok (kept_in rule p list) (kept rule p lists) (ap (or_breach rule list.name) (none_failing (Keeps rule p) (keeps rule p) (keeps_holds rule p) (keeps_broken rule p) list.seats all))
    ∙ kept_err rule p lists name n later

kept_decided : (rule : ParticipantRule) (p : Table) (lists : List NamedList) → AllKeep rule p (joined lists) ⊎ ((name : ListName) × (n : ℕ) × FirstPlace (Keeps rule p) lists name n)
kept_decided rule p lists = all_or_place (Keeps rule p) (keeps rule p) (keeps_holds rule p) (keeps_broken rule p) lists

-- a search over the cells
cell_decided : (P : ℕ → ℕ → Type 0) (o : Option Cell) → EveryCellOrFirst P o → ((z q : ℕ) → z < zones → q < quarters → P z q) ⊎ ((c : Cell) × FirstCell P c)
cell_decided P None every = inl every
cell_decided P (Some c) first = inr (c, first)

module _ (p : Table) where
  fair : (z q : ℕ) → price_fits p z q ≡ true → Within price_limit (p z q)
  fair z q = within_out price_limit (p z q)

  unfair : (z q : ℕ) → price_fits p z q ≡ false → ¬ (Within price_limit (p z q))
  unfair z q = within_fails price_limit (p z q)

  priced_ok : InRange p → priced p ≡ Ok tt
  priced_ok range = ap or_mispriced (every_cell_none (λ z q. Within price_limit (p z q)) (price_fits p) fair unfair range)

  priced_err : (c : Cell) → FirstCell (λ z q. Within price_limit (p z q)) c → priced p ≡ Err (PriceOutOfRange c.zone c.quarter)
  priced_err c first = ap or_mispriced (first_cell_found (λ z q. Within price_limit (p z q)) (price_fits p) fair unfair c first)

  priced_decided : InRange p ⊎ ((c : Cell) × FirstCell (λ z q. Within price_limit (p z q)) c)
  priced_decided = cell_decided (λ z q. Within price_limit (p z q)) (first_cell (price_fits p)) (every_cell_or_first (λ z q. Within price_limit (p z q)) (price_fits p) fair unfair (first_cell (price_fits p)) refl)

module _ (need : Table) (lists : List NamedList) where
  met : (z q : ℕ) → covered need (joined lists) z q ≡ true → Covered need (joined lists) z q
  met z q = same_out (effect (joined lists) z q) (need z q)

  unmet : (z q : ℕ) → covered need (joined lists) z q ≡ false → ¬ (Covered need (joined lists) z q)
  unmet z q = same_fails (effect (joined lists) z q) (need z q)

  covering_ok : Covers need (joined lists) → covering need lists ≡ Ok tt
  covering_ok all = ap or_uncovered (every_cell_none (Covered need (joined lists)) (covered need (joined lists)) met unmet all)

  covering_err : (c : Cell) → FirstCell (Covered need (joined lists)) c → covering need lists ≡ Err (Uncovered c.zone c.quarter)
  covering_err c first = ap or_uncovered (first_cell_found (Covered need (joined lists)) (covered need (joined lists)) met unmet c first)

  covering_decided : Covers need (joined lists) ⊎ ((c : Cell) × FirstCell (Covered need (joined lists)) c)
  covering_decided = cell_decided (Covered need (joined lists)) (first_cell (covered need (joined lists))) (every_cell_or_first (Covered need (joined lists)) (covered need (joined lists)) met unmet (first_cell (covered need (joined lists))) refl)

-- ---- all steps together
module _ (need p : Table) (lists : List NamedList) where
  -- what is left after the first steps passed
  after_strict : Result Accepted ClearingFault
  after_strict = and_then (kept LenientLosesNothing p lists) (Ok (stated p (joined lists)))

  after_needs : Result Accepted ClearingFault
  after_needs = and_then (kept StrictForgoesNothing p lists) (and_then (kept LenientLosesNothing p lists) (Ok (stated p (joined lists))))

  to_rules : AllByRecursion Fits lists → InRange p → judged need p lists ≡ ruled need p lists
  to_rules sizes range = then_ok (sized lists) (and_then (priced p) (ruled need p lists)) (sized_ok lists sizes) ∙ then_ok (priced p) (ruled need p lists) (priced_ok p range)

  to_needs : AllByRecursion Fits lists → InRange p → AllKeep Lawful p (joined lists) → judged need p lists ≡ and_then (covering need lists) after_needs
  unfolding after_needs
  to_needs sizes range lawful = to_rules sizes range ∙ then_ok (kept Lawful p lists) (and_then (covering need lists) after_needs) (kept_ok Lawful p lists lawful)

  to_strict : AllByRecursion Fits lists → InRange p → AllKeep Lawful p (joined lists) → Covers need (joined lists) → judged need p lists ≡ after_needs
  to_strict sizes range lawful covers = to_needs sizes range lawful ∙ then_ok (covering need lists) after_needs (covering_ok need lists covers)

  to_lenient : AllByRecursion Fits lists → InRange p → AllKeep Lawful p (joined lists) → Covers need (joined lists) → AllKeep StrictForgoesNothing p (joined lists) → judged need p lists ≡ after_strict
  unfolding after_needs after_strict
  to_lenient sizes range lawful covers strict = to_strict sizes range lawful covers ∙ then_ok (kept StrictForgoesNothing p lists) after_strict (kept_ok StrictForgoesNothing p lists strict)

  accepts : Clears need p lists → judged need p lists ≡ Ok (stated p (joined lists))
  unfolding after_strict
  accepts c =
      to_lenient c.lists_fit c.prices_in_range c.all_lawful c.needs_covered c.strict_forgo_nothing
      ∙ then_ok (kept LenientLosesNothing p lists) (Ok (stated p (joined lists))) (kept_ok LenientLosesNothing p lists c.lenient_lose_nothing)

  refuses : (fault : ClearingFault) → IsFirst need p lists fault → judged need p lists ≡ Err fault
  unfolding after_needs after_strict
  refuses (Misfit name) first = then_err (sized lists) (and_then (priced p) (ruled need p lists)) (Misfit name) (sized_err lists name first)
  refuses (PriceOutOfRange zone quarter) (sizes, first) =
      then_ok (sized lists) (and_then (priced p) (ruled need p lists)) (sized_ok lists sizes)
      ∙ then_err (priced p) (ruled need p lists) (PriceOutOfRange zone quarter) (priced_err p (record { zone = zone; quarter = quarter }) first)
  refuses (Breach Lawful name n) ((sizes, range), first) =
      to_rules sizes range
      ∙ then_err (kept Lawful p lists) (and_then (covering need lists) after_needs) (Breach Lawful name n) (kept_err Lawful p lists name n first)
  refuses (Breach StrictForgoesNothing name n) (((sizes, range), lawful, covers), first) =
      to_strict sizes range lawful covers
      ∙ then_err (kept StrictForgoesNothing p lists) after_strict (Breach StrictForgoesNothing name n) (kept_err StrictForgoesNothing p lists name n first)
  refuses (Breach LenientLosesNothing name n) ((((sizes, range), lawful, covers), strict), first) =
      to_lenient sizes range lawful covers strict
      ∙ then_err (kept LenientLosesNothing p lists) (Ok (stated p (joined lists))) (Breach LenientLosesNothing name n) (kept_err LenientLosesNothing p lists name n first)
  refuses (Uncovered zone quarter) ((sizes, range), lawful, first) =
      to_needs sizes range lawful
      ∙ then_err (covering need lists) after_needs (Uncovered zone quarter) (covering_err need lists (record { zone = zone; quarter = quarter }) first)

  -- an outcome clears, or some fault is the first
  decided : Clears need p lists ⊎ ((fault : ClearingFault) × IsFirst need p lists fault)
  decided =
      elim (sized_decided lists) [
        | inr (name, first) ↦ inr (Misfit name, first)
        | inl sizes ↦ (elim (priced_decided p) [
          | inr (c, first) ↦ inr (PriceOutOfRange c.zone c.quarter, (sizes, first))
          | inl range ↦ (elim (kept_decided Lawful p lists) [
            | inr (name, n, first) ↦ inr (Breach Lawful name n, ((sizes, range), first))
            | inl lawful ↦ (elim (covering_decided need lists) [
              | inr (c, first) ↦ inr (Uncovered c.zone c.quarter, ((sizes, range), lawful, first))
              | inl covers ↦ (elim (kept_decided StrictForgoesNothing p lists) [
                | inr (name, n, first) ↦ inr (Breach StrictForgoesNothing name n, (((sizes, range), lawful, covers), first))
                | inl strict ↦ (elim (kept_decided LenientLosesNothing p lists) [
                  | inr (name, n, first) ↦ inr (Breach LenientLosesNothing name n, ((((sizes, range), lawful, covers), strict), first))
                  | inl lenient ↦ inl (record { lists_fit = sizes; prices_in_range = range; all_lawful = lawful; needs_covered = covers; strict_forgo_nothing = strict; lenient_lose_nothing = lenient })
                ])
              ])
            ])
          ])
        ])
      ]

  accepted_clears : (a : Accepted) → judged need p lists ≡ Ok a → Clears need p lists × (a ≡ stated p (joined lists))
  accepted_clears a e =
      elim decided [
        | inl clears ↦ (clears, (let s : Ok a ≡ Ok (stated p (joined lists)) = sym e ∙ accepts clears in cc))
        | inr (fault, first) ↦ (let s : Ok a ≡ Err fault = sym e ∙ refuses fault first in let z : ◌≡◌ {A = ℕ} 0 1 = cc in absurd (omega arith))
      ]

  named_first : (fault : ClearingFault) → judged need p lists ≡ Err fault → IsFirst need p lists fault
  named_first fault e =
      elim decided [
        | inl clears ↦ (let s : Err fault ≡ Ok (stated p (joined lists)) = sym e ∙ accepts clears in let z : ◌≡◌ {A = ℕ} 0 1 = cc in absurd (omega arith))
        | inr (other, first) ↦ (let s : Err other ≡ Err fault = sym (refuses other first) ∙ e in let f : other ≡ fault = cc in subst (IsFirst need p lists) f first)
      ]

  -- the answer of the check
  pub exact : (answer : Result Accepted ClearingFault) → answer ≡ judged need p lists → Exact need p lists answer
  exact answer is = record {
    accepts_what_clears = λ clears. is ∙ accepts clears;
    clears_what_is_accepted = λ a e. accepted_clears a (sym is ∙ e);
    names_the_first = λ fault first. is ∙ refuses fault first;
    first_is_named = λ fault e. named_first fault (sym is ∙ e);
  }

  pub refused : (answer : Result Accepted ClearingFault) → Exact need p lists answer → Refuses need p lists (told clearing_refusal answer)
  refused (Ok a) ex = record {
    refuses_the_first = λ fault first. (let s = ex.names_the_first fault first in let z : ◌≡◌ {A = ℕ} 0 1 = cc in absurd (omega arith));
    first_is_refused = λ refusal e. (let z : ◌≡◌ {A = ℕ} 0 1 = cc in absurd (omega arith));
  }
  refused (Err fault) ex = record {
    refuses_the_first = λ other first. ap (told clearing_refusal) (ex.names_the_first other first);
    first_is_refused = λ refusal e. (fault, (let s : clearing_refusal fault ≡ refusal = cc in sym s), ex.first_is_named fault refl);
  }

  pub bounds : (answer : Result Accepted ClearingFault) → Exact need p lists answer → AllByRecursion Sound (kinds_of (joined lists)) → BoundsCosts need lists answer
  bounds (Ok a) ex sound =
      let accepted = ex.clears_what_is_accepted a refl in
      let Bound : Accepted → Type 0 = λ b. CostAtLeast need (joined lists) (b.cost -ℤ b.forgone) in
      subst Bound (sym accepted.1) (cost_at_least need p (joined lists) accepted.0.prices_in_range sound accepted.0.needs_covered)
  bounds (Err fault) ex sound = tt

  -- what the check promises, of an answer that is the one laid down
  pub checked : (answer : Result Accepted ClearingFault) → answer ≡ judged need p lists → AllByRecursion Sound (kinds_of (joined lists)) → Checked need p lists answer
  checked answer is sound =
      let right = exact answer is in
      record { laid_down = is; exact = right; refuses = refused answer right; bounds_costs = bounds answer right sound }
