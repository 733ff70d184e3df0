use Rattle.std.proofs.Common.{◌≡◌, ◌*ℤ◌, ap, ◌∙◌, w32, w64, SFits, rules}
use Rattle.std.proofs.lemmas.Int.{to_z-of_z}
use Rattle.market.proofs.Sums.{product_fits}
use Rattle.market.proofs.surplus.money.Goals as goal
use Rattle.market.proofs.surplus.money.Goals.{After-from-2}

cents_is : (c : After-from-2) → c.from.result ≡ c.args.cents
cents_is c = c.from.ensures ∙ to_z-of_z w32 c.args.cents c.ranges.cents

megawatts_is : (c : After-from-2) → c.from-2.result ≡ c.args.megawatts
megawatts_is c = c.from-2.ensures ∙ to_z-of_z w32 c.args.megawatts c.ranges.megawatts

product_is : (c : After-from-2) → c.from.result *ℤ c.from-2.result ≡ c.args.cents *ℤ c.args.megawatts
product_is c = ap (λ a. a *ℤ c.from-2.result) (cents_is c) ∙ ap (λ b. c.args.cents *ℤ b) (megawatts_is c)

fits : (c : After-from-2) → SFits w64 (c.from.result *ℤ c.from-2.result)
fits c = rw (product_is c) (product_fits c.args.cents c.args.megawatts c.ranges.cents c.ranges.megawatts)

pub overflow_mul-result : goal.overflow_mul-result
overflow_mul-result c =
    let a : SFits w64 c.from.result = search rules in
    let b : SFits w64 c.from-2.result = search rules in
    simp to_z-of_z (fits c)

pub returns : goal.returns
returns c =
    let a : SFits w64 c.from.result = search rules in
    let b : SFits w64 c.from-2.result = search rules in
    let f = fits c in
    simp to_z-of_z (product_is c)
