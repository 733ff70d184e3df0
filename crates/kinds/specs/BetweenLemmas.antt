-- Schedules between two limits in each quarter: the better limit is reached, and none of them gains more.
use Rattle.std.specs.Prelude.{◌≡◌, ℕ, zero, suc, ◌*◌, ◌<◌, Bool, true, false, cond, List, [], ◌∷◌, length, ℤ, pos, negsuc, ◌+ℤ◌, ◌-ℤ◌, ◌*ℤ◌, neg_ℤ, ◌≤ℤ◌, int_le, int_lt}
use Rattle.std.proofs.Math.Path.{refl, ap}
use Rattle.std.proofs.Common.{sym, ◌∙◌, arith}
use borrow.Author.Differences.{up, down, neg_is}
use Rattle.std.specs.Int.{int_max}
use Rattle.std.proofs.lemmas.Int.{ints, by_lt_z, clamps}
use Rattle.std.proofs.lemmas.Bool.{and_from, and_parts, cond_both, cond-true}
use Rattle.limits.specs.Limits.{quarters}
use Rattle.market.specs.Sums.{sum_below}
use Rattle.market.specs.Tests.{Tells}
use Rattle.market.specs.Cells.{InRange, Table, in_range}
use Rattle.market.specs.Kinds.{empty, mw}
use Rattle.market.proofs.Sums.{distrib, sum_same}
use Rattle.market.proofs.Tests.{every_in, every_out, range_in, range_out}
use Rattle.kinds.specs.Between.{between, gain, if_in_range, inside}
use Rattle.kinds.specs.Cells.{sum-le}

-- ---- schedules
pub empty-mw : (q : ℕ) → mw empty q ≡ pos 0
empty-mw zero = refl
empty-mw (suc zero) = refl
empty-mw (suc (suc zero)) = refl
empty-mw (suc (suc (suc zero))) = refl
empty-mw (suc (suc (suc (suc q)))) = refl

-- the schedule with these volumes
pub schedule : (ℕ → ℤ) → List ℤ
schedule v = v 0 ∷ v 1 ∷ v 2 ∷ v 3 ∷ []

pub schedule_length : (v : ℕ → ℤ) → length (schedule v) ≡ 4
unfolding schedule
schedule_length v = refl

pub schedule_mw : (v : ℕ → ℤ) (q : ℕ) → q < quarters → mw (schedule v) q ≡ v q
unfolding schedule
schedule_mw v zero h = refl
schedule_mw v (suc zero) h = refl
schedule_mw v (suc (suc zero)) h = refl
schedule_mw v (suc (suc (suc zero))) h = refl
schedule_mw v (suc (suc (suc (suc q)))) h = absurd (omega arith)

-- ---- the tests
pub between_out : (least most : ℕ → ℤ) (s : List ℤ) → between least most s ≡ true → (q : ℕ) → q < quarters → (least q ≤ℤ mw s q) × (mw s q ≤ℤ most q)
between_out least most s e q h =
    let both = and_parts (int_le (least q) (mw s q)) (int_le (mw s q) (most q)) (every_out quarters (inside least most s) e q h) in
    let low = both.0 in
    let high = both.1 in
    (omega (arith, ints), omega (arith, ints))

pub between_in : (least most : ℕ → ℤ) (s : List ℤ) → ((q : ℕ) → q < quarters → (least q ≤ℤ mw s q) × (mw s q ≤ℤ most q)) → between least most s ≡ true
between_in least most s h = every_in quarters (inside least most s) (λ q l. here q (h q l))
  where
    here : (q : ℕ) → (least q ≤ℤ mw s q) × (mw s q ≤ℤ most q) → inside least most s q ≡ true
    here q i = and_from (int_le (least q) (mw s q)) (int_le (mw s q) (most q)) (sym (omega (arith, ints))) (sym (omega (arith, ints)))

-- an answer that is the test tells whether the schedule lies between the limits in every quarter
pub between_tells : (least most : ℕ → ℤ) (s : List ℤ) (answer : Bool) → answer ≡ between least most s → Tells answer ((q : ℕ) → q < quarters → (least q ≤ℤ mw s q) × (mw s q ≤ℤ most q))
between_tells least most s answer is = ((λ e. between_out least most s (sym is ∙ e)), (λ all. is ∙ between_in least most s all))

-- ---- prices in range, and out of it
pub in_range_lem : (p : Table) (surplus : ℤ) → InRange p → if_in_range p surplus ≡ surplus
in_range_lem p surplus w = cond-true (in_range p) surplus (pos 0) (range_in p w)

pub out_of_range : (p : Table) (surplus : ℤ) → ¬ (InRange p) → if_in_range p surplus ≡ pos 0
out_of_range p surplus n = cond_both (in_range p) surplus (pos 0) (λ t. t ≡ pos 0) (λ e. absurd (n (range_out p e))) (λ e. refl)

-- ---- what a volume gains at a margin m
not_negative : (m d : ℤ) → pos 0 ≤ℤ m → pos 0 ≤ℤ d → pos 0 ≤ℤ (m *ℤ d)
not_negative (pos m) (pos d) h j = omega (arith, ints)
not_negative (pos m) (negsuc d) h j = absurd (omega (arith, ints))
not_negative (negsuc m) d h j = absurd (omega (arith, ints))

rises : (m a b : ℤ) → pos 0 ≤ℤ m → a ≤ℤ b → (m *ℤ a) ≤ℤ (m *ℤ b)
rises m a b h j =
    let gap : pos 0 ≤ℤ (b -ℤ a) = omega (arith, ints) in
    let more = not_negative m (b -ℤ a) h gap in
    let split = distrib m a (b -ℤ a) in
    let whole : (a +ℤ (b -ℤ a)) ≡ b = omega (arith, ints) in
    let there = ap (λ t. m *ℤ t) whole in
    omega (arith, ints)

negated : (m a : ℤ) → neg_ℤ m *ℤ a ≡ neg_ℤ (m *ℤ a)
negated m a =
    let n = neg_is m in
    omega (arith, ints, ap (λ t. t * up a) n.0, ap (λ t. t * down a) n.0, ap (λ t. t * up a) n.1, ap (λ t. t * down a) n.1)

falls : (m a b : ℤ) → m ≤ℤ pos 0 → a ≤ℤ b → (m *ℤ b) ≤ℤ (m *ℤ a)
falls m a b h j =
    let up = rises (neg_ℤ m) a b (omega (arith, ints)) j in
    let x = negated m a in
    let y = negated m b in
    omega (arith, ints)

best_of_two : (m low high v : ℤ) → low ≤ℤ v → v ≤ℤ high → (m *ℤ v) ≤ℤ int_max (m *ℤ low) (m *ℤ high)
best_of_two m low high v h j =
    by_lt_z m (pos 0)
    (λ l. let f = falls m low v (omega (arith, ints)) h in omega (arith, ints, clamps))
    (λ l. let r = rises m v high l j in omega (arith, ints, clamps))

-- ---- the better limit in each quarter
module _ (margin least most : ℕ → ℤ) where
  better : ℕ → ℤ
  better q = cond (int_lt (margin q *ℤ most q) (margin q *ℤ least q)) (least q) (most q)

  better_gains : (q : ℕ) → margin q *ℤ better q ≡ gain margin least most q
  unfolding better
  better_gains q =
      elim (int_lt (margin q *ℤ most q) (margin q *ℤ least q)) as (λ b. margin q *ℤ cond b (least q) (most q) ≡ cond b (margin q *ℤ least q) (margin q *ℤ most q)) [
        | true ↦ refl
        | false ↦ refl
      ]

  better_inside : (q : ℕ) → least q ≤ℤ most q → (least q ≤ℤ better q) × (better q ≤ℤ most q)
  unfolding better
  better_inside q h =
      elim (int_lt (margin q *ℤ most q) (margin q *ℤ least q)) as (λ b. (least q ≤ℤ cond b (least q) (most q)) × (cond b (least q) (most q) ≤ℤ most q)) [
        | true ↦ omega (arith, ints)
        | false ↦ omega (arith, ints)
      ]

  pub better_schedule : List ℤ
  better_schedule = schedule better

  pub better_length : length better_schedule ≡ 4
  unfolding better_schedule
  better_length = schedule_length better

  pub better_between : ((q : ℕ) → q < quarters → least q ≤ℤ most q) → between least most better_schedule ≡ true
  unfolding better_schedule
  better_between ordered = between_in least most (schedule better) (λ q h. let i = better_inside q (ordered q h) in let e = schedule_mw better q h in (rw e i.0, rw e i.1))

  pub better_reaches : sum_below quarters (λ q. margin q *ℤ mw better_schedule q) ≡ sum_below quarters (gain margin least most)
  unfolding better_schedule
  better_reaches = sum_same quarters (λ q. margin q *ℤ mw (schedule better) q) (gain margin least most) (λ q h. ap (λ t. margin q *ℤ t) (schedule_mw better q h) ∙ better_gains q)

  pub none_gains_more : (s : List ℤ) → between least most s ≡ true → sum_below quarters (λ q. margin q *ℤ mw s q) ≤ℤ sum_below quarters (gain margin least most)
  none_gains_more s e =
      sum-le quarters (λ q. margin q *ℤ mw s q) (gain margin least most) (λ q h.
      let i = between_out least most s e q h in
      best_of_two (margin q) (least q) (most q) (mw s q) i.0 i.1)
