-- How large the answers of a participant can be.
use Rattle.std.proofs.Common.{◌≡◌, ℕ, ◌*◌, List, ℤ, ◌*ℤ◌, sym, ◌∙◌, subst, inl, inr, arith}
use Rattle.std.proofs.lemmas.Int.{ints}
use Rattle.std.proofs.lemmas.Bool.{cases_Bool, both_ways}
use Rattle.limits.specs.Limits.{cost_limit, price_limit, effect_limit}
use Rattle.market.specs.Tests.{Within}
use Rattle.market.specs.Cells.{InRange, Table, in_range}
use Rattle.market.specs.Kinds.{Kind, Sound, best_limit, surplus}
use Rattle.market.proofs.Sums.{cells_within, product_within}
use Rattle.market.proofs.Tests.{range_in, range_out}

pub cost_within : (k : Kind) (sound : Sound k) (s : List ℤ) (r : ℤ) → r ≡ k.cost s → Within cost_limit r
cost_within k sound s r e = rw e (sound.costs_in_range s)

pub effect_within : (k : Kind) (sound : Sound k) (s : List ℤ) (z q : ℕ) (r : ℤ) → r ≡ k.effect s z q → Within effect_limit r
effect_within k sound s z q r e = rw e (sound.effects_in_range s z q)

surplus-within : (k : Kind) (sound : Sound k) (p : Table) (s : List ℤ) → InRange p → Within best_limit (surplus k p s)
surplus-within k sound p s range =
    let all = cells_within (price_limit * effect_limit) (λ z q. p z q *ℤ k.effect s z q) (λ z q h j. product_within price_limit effect_limit (p z q) (k.effect s z q) (range z q h j) (sound.effects_in_range s z q)) in
    let paid = sound.costs_in_range s in
    (omega (arith, ints), omega (arith, ints))

-- at any prices
pub best_within : (k : Kind) (sound : Sound k) (p : Table) (r : ℤ) → r ≡ k.best p → Within best_limit r
best_within k sound p r e =
    elim (cases_Bool (in_range p)) [
      | inl yes' ↦ (let found = sound.best_is_reached p (range_out p yes') in subst (Within best_limit) (found.3 ∙ sym e) (surplus-within k sound p found.0 (range_out p yes')))
      | inr no' ↦ (let none = sound.no_best_out_of_range p (λ w. both_ways (in_range p) no' (range_in p w)) in (omega (arith, ints), omega (arith, ints)))
    ]
