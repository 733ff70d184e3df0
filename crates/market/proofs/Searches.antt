-- The first of some numbers, and the first cell, that fails a test.
use Rattle.std.proofs.Common.{◌≡◌, ℕ, zero, suc, ◌+◌, ◌<◌, ◌≤◌, Bool, true, false, Some, None, Option, MatchOption, sym, refl, ap, ◌∙◌, subst, inl, inr, eq-or-lt_of_le, add-one, arith, below_more}
use Rattle.std.proofs.lemmas.Bool.{cond-true, cond-false, cases_Bool, both_ways}
use Rattle.limits.specs.Limits.{zones, quarters}
use Rattle.market.specs.Tests.{every}
use Rattle.market.specs.Searches.{first_some}
use Rattle.std.specs.Option.{option_or}
use Rattle.market.specs.Cells.{EveryCellOrFirst, FirstCell, failing, first_cell, first_in_zone, in_zone}
use Rattle.market.specs.declared.cells.Cell.{Cell}
use Rattle.market.proofs.Tests.{every_in, every_fails}

-- ---- none below 0, one number more, and where one is found
pub first_none : {X : Type 0} (g : ℕ → Option X) → first_some 0 g ≡ None
unfolding first_some
first_none g = refl

pub first_more : {X : Type 0} (n : ℕ) (g : ℕ → Option X) → first_some n g ≡ None → g n ≡ None → first_some (n + 1) g ≡ None
unfolding first_some
first_more n g e here = rw add-one (ap (λ o. option_or o (g n)) e ∙ here)

first_stays : {X : Type 0} (n : ℕ) (g : ℕ → Option X) (x : X) → first_some n g ≡ Some x → first_some (suc n) g ≡ Some x
unfolding first_some
first_stays n g x e = ap (λ o. option_or o (g n)) e

first_here : {X : Type 0} (n : ℕ) (g : ℕ → Option X) (x : X) → first_some n g ≡ None → g n ≡ Some x → first_some (suc n) g ≡ Some x
unfolding first_some
first_here n g x e here = ap (λ o. option_or o (g n)) e ∙ here

pub first_found : {X : Type 0} (n : ℕ) (g : ℕ → Option X) (i : ℕ) (x : X) → i < n → first_some i g ≡ None → g i ≡ Some x → first_some n g ≡ Some x
first_found zero g i x h none here = absurd (omega arith)
first_found (suc n) g i x h none here =
    let below : i ≤ n = omega arith in
    elim (eq-or-lt_of_le below) [
      | inl e ↦ rw e at (first_here i g x none here)
      | inr l ↦ first_stays n g x (first_found n g i x l none here)
    ]

-- ---- what an answer says
all_none : {X : Type 0} (n : ℕ) (g : ℕ → Option X) → first_some n g ≡ None → (k : ℕ) → k < n → g k ≡ None
unfolding first_some
all_none zero g e k h = absurd (omega arith)
all_none {X = X} (suc n) g e k h = go (first_some n g) refl (sym e) (all_none n g)
  where
    go : (o : Option X) → first_some n g ≡ o → None ≡ option_or o (g n) → (first_some n g ≡ None → (j : ℕ) → j < n → g j ≡ None) → g k ≡ None
    go None before here all = below_more (λ j. g j ≡ None) n (all before) (sym here) k (omega arith)
    go (Some x) before here all = let z : ◌≡◌ {A = ℕ} 0 1 = cc in absurd (omega arith)

none_all : {X : Type 0} (n : ℕ) (g : ℕ → Option X) → ((k : ℕ) → k < n → g k ≡ None) → first_some n g ≡ None
unfolding first_some
none_all zero g h = refl
none_all (suc n) g h = ap (λ o. option_or o (g n)) (none_all n g (λ k l. h k (omega arith))) ∙ h n (omega arith)

-- the place where one is found: none before it
record Found {X : Type 0} (n : ℕ) (g : ℕ → Option X) (x : X) : Type 0 where
  place : ℕ
  below : place < n
  before : (k : ℕ) → k < place → g k ≡ None
  here : g place ≡ Some x

found : {X : Type 0} (n : ℕ) (g : ℕ → Option X) (x : X) → first_some n g ≡ Some x → Found n g x
unfolding first_some
found zero g x e = let z : ◌≡◌ {A = ℕ} 0 1 = cc in absurd (omega arith)
found {X = X} (suc n) g x e = go (first_some n g) refl e (found n g x)
  where
    go : (o : Option X) → first_some n g ≡ o → option_or o (g n) ≡ Some x → (first_some n g ≡ Some x → Found n g x) → Found (suc n) g x
    go None before here sooner = record { place = n; below = omega arith; before = all_none n g before; here = here }
    go (Some y) before here sooner = let f = sooner (before ∙ here) in record { place = f.place; below = omega (arith, f.below); before = f.before; here = f.here }

-- ---- a number that fails a test
pub passes : (t : ℕ → Bool) (n : ℕ) → t n ≡ true → failing t n ≡ None
passes t n e = cond-true (t n) None (Some n) e

pub fails : (t : ℕ → Bool) (n : ℕ) → t n ≡ false → failing t n ≡ Some n
fails t n e = cond-false (t n) None (Some n) e

passed : (t : ℕ → Bool) (n : ℕ) → failing t n ≡ None → t n ≡ true
passed t n e =
    elim (cases_Bool (t n)) [
      | inl p ↦ p
      | inr f ↦ (let s = fails t n f in let z : ◌≡◌ {A = ℕ} 0 1 = cc in absurd (omega arith))
    ]

failed : (t : ℕ → Bool) (n m : ℕ) → failing t n ≡ Some m → (t n ≡ false) × (n ≡ m)
failed t n m e =
    elim (cases_Bool (t n)) [
      | inl p ↦ (let s = passes t n p in let z : ◌≡◌ {A = ℕ} 0 1 = cc in absurd (omega arith))
      | inr f ↦ (let s = fails t n f in (f, cc))
    ]

-- ---- what a search over a range answers, where Yes and No tell of each number whether there is something
pub first_in_range : {X : Type 0} (n : ℕ) (g : ℕ → Option X) (r : Option X) → MatchOption r ((k : ℕ) → k < n → g k ≡ None) (λ x. (i : ℕ) × (i < n) × (g i ≡ Some x) × ((k : ℕ) → k < i → g k ≡ None)) → r ≡ first_some n g
first_in_range n g None none = sym (none_all n g none)
first_in_range n g (Some x) (i, below, here, before) = sym (first_found n g i x below (none_all i g before) here)

pub quarter_in_range : (t : ℕ → Bool) (n : ℕ) (r : Option ℕ) → MatchOption r ((k : ℕ) → 0 ≤ k → k < n → t k ≡ true) (λ i. (0 ≤ i) × (i < n) × (t i ≡ false) × ((k : ℕ) → 0 ≤ k → k < i → t k ≡ true)) → r ≡ first_some n (failing t)
quarter_in_range t n None all = first_in_range n (failing t) None (λ k h. passes t k (all k (omega arith) h))
quarter_in_range t n (Some i) (_, below, here, before) = first_in_range n (failing t) (Some i) (i, below, fails t i here, (λ k h. passes t k (before k (omega arith) h)))

-- ---- the same by steps, where none was found so far: the quarters of a zone, and the zones
module _ (t : ℕ → Bool) where
  pub quarter_fails : (i : ℕ) → i < quarters → first_some i (failing t) ≡ None → t i ≡ false → Some i ≡ first_some quarters (failing t)
  quarter_fails i h none here = sym (first_found quarters (failing t) i i h none (fails t i here))

  pub quarter_passes : (i : ℕ) → first_some i (failing t) ≡ None → t i ≡ true → first_some (i + 1) (failing t) ≡ None
  quarter_passes i none here = first_more i (failing t) none (passes t i here)

  pub quarters_pass : (i : ℕ) → i ≡ quarters → first_some i (failing t) ≡ None → None ≡ first_some quarters (failing t)
  quarters_pass i end none = sym (ap (λ n. first_some n (failing t)) (sym end) ∙ none)

module _ (t : ℕ → ℕ → Bool) where
  pub zone_fails : (z q : ℕ) → z < zones → first_some z (first_in_zone t) ≡ None → Some q ≡ first_some quarters (failing (t z)) → Some (record { zone = z; quarter = q }) ≡ first_cell t
  zone_fails z q h none here = sym (first_found zones (first_in_zone t) z (record { zone = z; quarter = q }) h none (ap (in_zone z) (sym here)))

  pub zone_passes : (z : ℕ) → first_some z (first_in_zone t) ≡ None → None ≡ first_some quarters (failing (t z)) → first_some (z + 1) (first_in_zone t) ≡ None
  zone_passes z none here = first_more z (first_in_zone t) none (ap (in_zone z) (sym here))

  pub zones_pass : (z : ℕ) → z ≡ zones → first_some z (first_in_zone t) ≡ None → None ≡ first_cell t
  zones_pass z end none = sym (ap (λ n. first_some n (first_in_zone t)) (sym end) ∙ none)

-- ---- cells
in_zone_none : (z : ℕ) (o : Option ℕ) → in_zone z o ≡ None → o ≡ None
in_zone_none z None e = refl
in_zone_none z (Some q) e = let k : ◌≡◌ {A = ℕ} 0 1 = cc in absurd (omega arith)

in_zone_some : (z : ℕ) (o : Option ℕ) (c : Cell) → in_zone z o ≡ Some c → (c.zone ≡ z) × (o ≡ Some c.quarter)
in_zone_some z None c e = let k : ◌≡◌ {A = ℕ} 0 1 = cc in absurd (omega arith)
in_zone_some z (Some q) c e =
    let s : record { zone = z; quarter = q } ≡ c = cc in
    (sym (ap (λ (x : Cell). x.zone) s), ap (λ (x : Cell). Some x.quarter) s)

each_passes : (t : ℕ → ℕ → Bool) (z : ℕ) → in_zone z (first_some quarters (failing (t z))) ≡ None → (q : ℕ) → q < quarters → t z q ≡ true
each_passes t z e q h = passed (t z) q (all_none quarters (failing (t z)) (in_zone_none z _ e) q h)

pub no_cell_fails : (t : ℕ → ℕ → Bool) → first_cell t ≡ None → (z q : ℕ) → z < zones → q < quarters → t z q ≡ true
no_cell_fails t e z q h j = each_passes t z (all_none zones (first_in_zone t) e z h) q j

pub cells_pass : (t : ℕ → ℕ → Bool) → ((z q : ℕ) → z < zones → q < quarters → t z q ≡ true) → first_cell t ≡ None
cells_pass t h = none_all zones (first_in_zone t) (λ z l. ap (in_zone z) (none_all quarters (failing (t z)) (λ q j. passes (t z) q (h z q l j))))

-- the first cell that fails a test t of P
module _ (P : ℕ → ℕ → Type 0) (t : ℕ → ℕ → Bool) (holds : (z q : ℕ) → t z q ≡ true → P z q) (broken : (z q : ℕ) → t z q ≡ false → ¬ (P z q)) where
  first_cell_is : (c : Cell) → first_cell t ≡ Some c → FirstCell P c
  first_cell_is c e =
      let f = found zones (first_in_zone t) c e in
      let at_place = in_zone_some f.place (first_some quarters (failing (t f.place))) c f.here in
      let k = found quarters (failing (t f.place)) c.quarter at_place.1 in
      let at-quarter = failed (t f.place) k.place c.quarter k.here in
      let same-zone = at_place.0 in
      let same-quarter = at-quarter.1 in
      let At : ℕ → ℕ → Type 0 = λ z q. ¬ (P z q) in
      let Before : ℕ → Type 0 = λ z. (q : ℕ) → q < c.quarter → P z q in
      record {
        zone = omega (arith, f.below);
        quarter = omega (arith, k.below);
        broken = subst (λ (z : ℕ). At z c.quarter) (sym same-zone) (subst (At f.place) same-quarter (broken f.place k.place at-quarter.0));
        zones_before = λ z q h j. holds z q (each_passes t z (f.before z (omega arith)) q j);
        quarters_before = subst Before (sym same-zone) (λ q h. holds f.place q (passed (t f.place) q (k.before q (omega arith))));
      }

  pub every_cell_or_first : (o : Option Cell) → o ≡ first_cell t → EveryCellOrFirst P o
  every_cell_or_first None e = λ z q h j. holds z q (no_cell_fails t (sym e) z q h j)
  every_cell_or_first (Some c) e = first_cell_is c (sym e)

  true_where_holds : (z q : ℕ) → P z q → t z q ≡ true
  true_where_holds z q p =
      elim (cases_Bool (t z q)) [
        | inl yes' ↦ yes'
        | inr no' ↦ absurd (broken z q no' p)
      ]

  false_where_broken : (z q : ℕ) → ¬ (P z q) → t z q ≡ false
  false_where_broken z q n =
      elim (cases_Bool (t z q)) [
        | inl yes' ↦ absurd (n (holds z q yes'))
        | inr no' ↦ no'
      ]

  pub first_cell_found : (c : Cell) → FirstCell P c → first_cell t ≡ Some c
  first_cell_found c f =
      first_found zones (first_in_zone t) c.zone c f.zone
      (none_all c.zone (first_in_zone t) (λ z l. ap (in_zone z) (none_all quarters (failing (t z)) (λ q j. passes (t z) q (true_where_holds z q (f.zones_before z q l j))))))
      (ap (in_zone c.zone) (first_found quarters (failing (t c.zone)) c.quarter c.quarter f.quarter
      (none_all c.quarter (failing (t c.zone)) (λ q l. passes (t c.zone) q (true_where_holds c.zone q (f.quarters_before q l))))
      (fails (t c.zone) c.quarter (false_where_broken c.zone c.quarter f.broken))))

  pub every_cell_none : ((z q : ℕ) → z < zones → q < quarters → P z q) → first_cell t ≡ None
  every_cell_none h = cells_pass t (λ z q l j. true_where_holds z q (h z q l j))

-- whether some cell fails, as a test
pub none_every : (t : ℕ → ℕ → Bool) → first_cell t ≡ None → every zones (λ z. every quarters (t z)) ≡ true
none_every t e = every_in zones (λ z. every quarters (t z)) (λ z h. every_in quarters (t z) (λ q j. no_cell_fails t e z q h j))

pub some_every : (t : ℕ → ℕ → Bool) (c : Cell) → first_cell t ≡ Some c → every zones (λ z. every quarters (t z)) ≡ false
some_every t c e =
    let f = first_cell_is (λ z q. t z q ≡ true) t (λ z q h. h) (λ z q h l. both_ways (t z q) h l) c e in
    every_fails zones (λ z. every quarters (t z)) c.zone f.zone (every_fails quarters (t c.zone) c.quarter f.quarter (false_here (t c.zone c.quarter) f.broken))
  where
    false_here : (b : Bool) → ¬ (b ≡ true) → b ≡ false
    false_here true n = absurd (n refl)
    false_here false n = refl
