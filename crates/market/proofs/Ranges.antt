-- What `find_map` answers over a range from 0, where each call leaves the closure as it was.
use Rattle.std.proofs.Common.{◌≡◌, ℕ, ◌+◌, ◌<◌, Some, None, Option, MatchOption, IsSomeAnd, IfSome, IsTrue, sym, ap, ◌∙◌, arith}
use Rattle.std.proofs.iter.Yields.{nat_range_steps}
use Rattle.std.proofs.iter.runs.Sources.{range_runs}
use Rattle.std.specs.declared.ops.Range.{Range}
use Rattle.std.specs.Fn.{Called}
use Rattle.std.specs.Option.{option_map}
use Rattle.std.specs.Iterator.Runs.{SomeRun, AllItemsGive, IsFirstToGive}
use denote.Param.Members.{Mut}
use Rattle.market.specs.Searches.{first_some}
use Rattle.market.proofs.Searches.{first_in_range}

module _ {F X : Type 0} {g : Mut F (ℕ × Unit {0}) (Option X)} (f : F) (h : ℕ → Option X) (calls : (k : ℕ) (o : Option X) (q : F) → Called g f (k, tt) o q → (q ≡ f) × (o ≡ h k)) where
  keeps : (a : ℕ × Unit {0}) (o : Option X) (q : F) → Called g f a o q → q ≡ f
  keeps (k, _) o q c = (calls k o q c).0

  given : (o : Option ℕ) (k : ℕ) (x : Option X) → option_map (λ y. y) o ≡ Some k → IfSome o (λ i. Called g f (i, tt) x f) → h k ≡ x
  given None k x e c = let z : ◌≡◌ {A = ℕ} 0 1 = cc in absurd (omega arith)
  given (Some i) k x e c = let s : i ≡ k = cc in ap h (sym s) ∙ sym (calls i x f c).1

  stopped : (o : Option ℕ) (k : ℕ) (x : Option X) → option_map (λ y. y) o ≡ Some k → IsSomeAnd o (λ i. Called g f (i, tt) x f) → h k ≡ x
  stopped None k x e c = elim c [ ]
  stopped (Some i) k x e c = given (Some i) k x e c

  pub mapped_in_range : (n : ℕ) (s : Range ℕ) (r : Option X) → s ≡ record { start = 0; end = n }
      → SomeRun nat_range_steps s (λ p. MatchOption r (IsTrue p.whole × AllItemsGive p g f None) (λ y. (i : ℕ) × (i < p.len) × (p.len ≡ i + 1) × IsFirstToGive p g f (Some y) None i))
      → r ≡ first_some n h
  mapped_in_range n s r is (p, from, m) = first_in_range n h r (ends r m)
    where
      low : p.from.start ≡ 0
      low = ap (λ (a : Range ℕ). a.start) (from ∙ is)

      high : p.from.end ≡ n
      high = ap (λ (a : Range ℕ). a.end) (from ∙ is)

      place : (k : ℕ) → k < p.len → option_map (λ y. y) (p.at k) ≡ Some k
      place k below =
          let e : p.from.start + k ≡ k = omega (arith, low) in
          (range_runs p p.seen).3 k below ∙ ap Some e

      ends : (r : Option X) → MatchOption r (IsTrue p.whole × AllItemsGive p g f None) (λ y. (i : ℕ) × (i < p.len) × (p.len ≡ i + 1) × IsFirstToGive p g f (Some y) None i)
          → MatchOption r ((k : ℕ) → k < n → h k ≡ None) (λ x. (i : ℕ) × (i < n) × (h i ≡ Some x) × ((k : ℕ) → k < i → h k ≡ None))
      ends None (whole, all) = λ k below. given (p.at k) k None (place k (omega (arith, (range_runs p p.seen).1 whole, low, high))) (all keeps k)
      ends (Some x) (i, below, len, first) =
          let told = first keeps in (
            i,
            omega (arith, (range_runs p p.seen).0, low, high),
            stopped (p.at i) i (Some x) (place i below) told.0,
            λ k before. stopped (p.at k) k None (place k (omega arith)) (told.1 k before),
          )
