-- A loop that adds up signed numbers of 64 bits: one turn.
use Rattle.std.proofs.Common.{◌≡◌, ℕ, ◌+◌, ◌*◌, ◌^◌, ◌<◌, ℤ, ◌+ℤ◌, sym, ap, ◌∙◌, arith, w64, SFits, to_z, of_z}
use Rattle.std.proofs.lemmas.Int.{ints, to_z-of_z}
use Rattle.market.specs.Tests.{Within}

-- s is the sum so far, after i turns, and r what is added; each turn adds at most m
pub next_within : (m i : ℕ) (s r : ℤ) → Within (m * i) s → Within m r → Within (m * (i + 1)) (s +ℤ r)
next_within m i s r far small = omega (arith, ints)

-- the same where the sum fits, as the code adds it
module _ (m i : ℕ) (s r : ℤ) (r-fits : SFits w64 r) (far : Within (m * i) s) (small : Within m r) (room : m * (i + 1) < 2 ^ 63) where
  sum_fits : SFits w64 (s +ℤ r)
  sum_fits = let n = next_within m i s r far small in omega (arith, ints)

  same : s +ℤ to_z w64 (of_z w64 r) ≡ s +ℤ r
  same = ap (λ z. s +ℤ z) (to_z-of_z w64 r r-fits)

  pub next_fits : SFits w64 (s +ℤ to_z w64 (of_z w64 r))
  next_fits = rw same sum_fits

  pub next_is : to_z w64 (of_z w64 (s +ℤ to_z w64 (of_z w64 r))) ≡ s +ℤ r
  next_is = ap (λ z. to_z w64 (of_z w64 z)) same ∙ to_z-of_z w64 (s +ℤ r) sum_fits

  pub next : (before after : ℤ) → s ≡ before → after ≡ before +ℤ r → (to_z w64 (of_z w64 (s +ℤ to_z w64 (of_z w64 r))) ≡ after) × Within (m * (i + 1)) (to_z w64 (of_z w64 (s +ℤ to_z w64 (of_z w64 r))))
  next before after e a = (next_is ∙ ap (λ z. z +ℤ r) e ∙ sym a, rw next_is (next_within m i s r far small))
