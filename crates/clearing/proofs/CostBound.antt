-- What an outcome that covers the needs forgoes, and that no other is cheaper by more than that.
use Rattle.std.proofs.Common.{◌≡◌, List, [], ◌∷◌, ℤ, pos, ◌+ℤ◌, ◌-ℤ◌, ◌*ℤ◌, ◌≤ℤ◌, sym, ap, ◌∙◌, subst, arith}
use Rattle.std.proofs.lemmas.Int.{ints}
use Rattle.std.specs.List.{AllByRecursion}
use Rattle.market.specs.Sums.{sum_cells, sum_over}
use Rattle.market.specs.Cells.{InRange, Table}
use Rattle.market.specs.Kinds.{Kind, Sound}
use Rattle.market.proofs.Sums.{cells_same, over_cells, over_le, over_map, over_minus}
use Rattle.clearing.specs.Seats.{Seat, cost, cost_in, effect_in, forgone, kinds_of, own}
use Rattle.clearing.specs.Rules.{CostAtLeast, Covers, IsLawful}

-- the value of the needs at given prices
pub needs_value : Table → Table → ℤ
needs_value need p = sum_cells (λ z q. p z q *ℤ need z q)

-- the best surplus of all participants
pub best_of_all : Table → List Seat → ℤ
best_of_all p ss = sum_over (λ s. s.kind.best p) ss

-- where the needs are covered, all surpluses together are the value of the needs less the cost
own_is : (need p : Table) (ss : List Seat) → Covers need ss → sum_over (own p) ss ≡ needs_value need p -ℤ cost ss
unfolding needs_value
own_is need p ss covers =
    over_minus (λ s. sum_cells (λ z q. p z q *ℤ effect_in z q s)) cost_in ss
    ∙ ap (λ t. t -ℤ cost ss) (over_cells p (λ s z q. effect_in z q s) ss
    ∙ cells_same (λ z q. p z q *ℤ sum_over (effect_in z q) ss) (λ z q. p z q *ℤ need z q) (λ z q h j. ap (λ t. p z q *ℤ t) (covers z q h j)))

-- the identity: what is forgone is the best of all, less the value of the needs, plus the cost
pub forgone_is : (need p : Table) (ss : List Seat) → Covers need ss → forgone p ss ≡ (best_of_all p ss -ℤ needs_value need p) +ℤ cost ss
unfolding best_of_all needs_value
forgone_is need p ss covers =
    let split = over_minus (λ s. s.kind.best p) (own p) ss in
    let all = own_is need p ss covers in
    omega (arith, ints)

bests : Table → List Kind → ℤ
bests p ks = sum_over (λ k. k.best p) ks

best_by_kinds : (p : Table) (ss : List Seat) → best_of_all p ss ≡ bests p (kinds_of ss)
unfolding bests best_of_all
best_by_kinds p ss = over_map (λ k. k.best p) (λ s. s.kind) ss

none_better : (p : Table) → InRange p → (ss : List Seat) → AllByRecursion Sound (kinds_of ss) → AllByRecursion IsLawful ss → AllByRecursion (λ s. own p s ≤ℤ s.kind.best p) ss
none_better p range [] sound lawful = tt
none_better p range (s ∷ ss) sound lawful = (sound.0.none_is_better p s.schedule range lawful.0, none_better p range ss sound.1 lawful.1)

-- lawful schedules forgo nothing or more
not_negative : (p : Table) → InRange p → (ss : List Seat) → AllByRecursion Sound (kinds_of ss) → AllByRecursion IsLawful ss → pos 0 ≤ℤ forgone p ss
unfolding best_of_all
not_negative p range ss sound lawful =
    let le = over_le (own p) (λ s. s.kind.best p) ss (none_better p range ss sound lawful) in
    let split = over_minus (λ s. s.kind.best p) (own p) ss in
    omega (arith, ints)

-- the bound: of two outcomes of the same participants that cover the same needs, forgone less cost differs by nothing, and is at least minus the cost
pub cost_at_least : (need p : Table) (ss : List Seat) → InRange p → AllByRecursion Sound (kinds_of ss) → Covers need ss → CostAtLeast need ss (cost ss -ℤ forgone p ss)
cost_at_least need p ss range sound covers other same lawful covers' =
    let here = forgone_is need p ss covers in
    let there = forgone_is need p other covers' in
    let best : best_of_all p other ≡ best_of_all p ss = best_by_kinds p other ∙ ap (bests p) same ∙ sym (best_by_kinds p ss) in
    let some = not_negative p range other (subst (AllByRecursion Sound) (sym same) sound) lawful in
    omega (arith, ints)
