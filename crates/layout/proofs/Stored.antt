-- A figure in a field's range is stored in the field's bits, and comes back from them.
use Rattle.std.proofs.Common.{◌≡◌, ℕ, zero, suc, ◌^◌, ◌<◌, ◌≤◌, true, ◌&&◌, eqb, leb, ◌⊎◌, List, [], ◌∷◌, length, get_or, ℤ, pos, negsuc, ◌+ℤ◌, ◌≤ℤ◌, ◌<ℤ◌, inl, inr, arith, w64, SFits, of_z}
use lib.Signed.{le_z, lt_z}
use native.Mathlib.Nat.{pow-le-pow_right}
use Rattle.std.proofs.lemmas.Int.{ints, to_z-of_z}
use Rattle.std.proofs.lemmas.Bool.{and_parts, and_from, or_cases, leb-true, eqb-true}
use Rattle.layout.specs.Fields.{admits, figure_of, keeps, stored_as}
use Rattle.layout.specs.Sound.{all_proper, fits_all_bits, fits_offset, proper}
use Rattle.layout.specs.declared.field.Field.{Field}
use Rattle.layout.specs.declared.field.Rule.TheVariants.{Within}

-- what stands past the end of a list of fields, as the checker has it
abbrev pub blank : Field
blank = record { width = 0; offset = pos 0; low = pos 0; high = pos 0; rule = Within }

int_le-le : (a b : ℤ) → le_z a b ≡ true → a ≤ℤ b
int_le-le a b h = grind (arith, ints)

int_lt-lt : (a b : ℤ) → lt_z a b ≡ true → a <ℤ b
int_lt-lt a b h = grind (arith, ints)

le-int_le : (a b : ℤ) → a ≤ℤ b → le_z a b ≡ true
le-int_le a b h = grind (arith, ints)

-- the two ways to be proper, as facts
record Offset (f : Field) : Type 0 where
  narrow : f.width ≤ 63
  shift : pos 0 ≤ℤ f.offset
  floor : pos 0 ≤ℤ (f.low +ℤ f.offset)
  roof : (f.high +ℤ f.offset) <ℤ pos (2 ^ f.width)

record Whole (f : Field) : Type 0 where
  wide : f.width ≡ 64
  shift : pos 0 ≤ℤ f.offset
  none : f.offset ≤ℤ pos 0
  floor : negsuc 9223372036854775807 ≤ℤ f.low
  roof : f.high ≤ℤ pos 9223372036854775807

proper_cases : (f : Field) → proper f ≡ true → Offset f ⊎ Whole f
proper_cases f h =
    elim (or_cases (fits_offset f) (fits_all_bits f) h) [
      | inl e ↦ (
          let p = and_parts (leb f.width 63 && le_z (pos 0) f.offset && le_z (pos 0) (f.low +ℤ f.offset)) _ e in
          let q = and_parts (leb f.width 63 && le_z (pos 0) f.offset) _ p.0 in
          let r = and_parts (leb f.width 63) _ q.0 in
          inl (record { narrow = leb-true _ _ r.0; shift = int_le-le _ _ r.1; floor = int_le-le _ _ q.1; roof = int_lt-lt _ _ p.1 }))
      | inr e ↦ (
          let p = and_parts (eqb f.width 64 && le_z (pos 0) f.offset && le_z f.offset (pos 0) && le_z (negsuc 9223372036854775807) f.low) _ e in
          let q = and_parts (eqb f.width 64 && le_z (pos 0) f.offset && le_z f.offset (pos 0)) _ p.0 in
          let r = and_parts (eqb f.width 64 && le_z (pos 0) f.offset) _ q.0 in
          let s = and_parts (eqb f.width 64) _ r.0 in
          inr (record { wide = eqb-true _ _ s.0; shift = int_le-le _ _ s.1; none = int_le-le _ _ r.1; floor = int_le-le _ _ q.1; roof = int_le-le _ _ p.1 }))
    ]

pub width_below : (f : Field) → proper f ≡ true → f.width < 65
width_below f h = elim (proper_cases f h) [ inl o ↦ omega (arith, o.narrow) | inr w ↦ omega (arith, w.wide) ]

-- a number below a bound that is no more than 2 ^ 63, in 64 bits and back
module _ (z : ℤ) (bound : ℕ) (small : bound ≤ 2 ^ 63) (low : pos 0 ≤ℤ z) (high : z <ℤ pos bound) where
  bits_fit : SFits w64 z
  bits_fit = record { sfits = grind (arith, ints) }

  bits_below : of_z w64 z < bound
  bits_below = omega (arith, ints)

power : (f : Field) → Offset f → 2 ^ f.width ≤ 2 ^ 63
power f o = pow-le-pow_right {n = 2} (omega arith) {i = f.width} {j = 63} o.narrow

module _ (f : Field) (x : ℤ) (h : proper f ≡ true) (low : f.low ≤ℤ x) (high : x ≤ℤ f.high) where
  pub sum_fits : SFits w64 (x +ℤ f.offset)
  sum_fits =
      elim (proper_cases f h) [
        | inl o ↦ bits_fit (x +ℤ f.offset) (2 ^ f.width) (power f o) (omega (arith, ints)) (omega (arith, ints))
        | inr w ↦ record { sfits = grind (arith, ints) }
      ]

  pub stored_below : stored_as f x < 2 ^ f.width
  stored_below =
      elim (proper_cases f h) [
        | inl o ↦ bits_below (x +ℤ f.offset) (2 ^ f.width) (power f o) (omega (arith, ints)) (omega (arith, ints))
        | inr w ↦ rw w.wide (omega (arith, ints))
      ]

  pub figure_stored : x ≡ figure_of f (stored_as f x)
  figure_stored = let s = sum_fits in let e = to_z-of_z w64 (x +ℤ f.offset) s in omega (arith, ints)

pub stored_figure : (f : Field) (v : ℕ) → proper f ≡ true → v < 2 ^ f.width → stored_as f (figure_of f v) ≡ v
stored_figure f v h l =
    elim (proper_cases f h) [
      | inl o ↦ (let p = power f o in omega (arith, ints))
      | inr w ↦ (let e : v < 2 ^ 64 = rw w.wide at l in grind (arith, ints))
    ]

pub admits_parts : (f : Field) (xs : List ℤ) (x : ℤ) → admits f xs x ≡ true → (f.low ≤ℤ x) × (x ≤ℤ f.high) × (keeps f.rule xs x ≡ true)
admits_parts f xs x h =
    let p = and_parts (le_z f.low x && le_z x f.high) (keeps f.rule xs x) h in
    let q = and_parts (le_z f.low x) (le_z x f.high) p.0 in
    (int_le-le _ _ q.0, int_le-le _ _ q.1, p.1)

pub admits_from : (f : Field) (xs : List ℤ) (x : ℤ) → f.low ≤ℤ x → x ≤ℤ f.high → keeps f.rule xs x ≡ true → admits f xs x ≡ true
admits_from f xs x p q e =
    and_from (le_z f.low x && le_z x f.high) (keeps f.rule xs x) (and_from (le_z f.low x) (le_z x f.high) (le-int_le _ _ p) (le-int_le _ _ q)) e

-- a fact of every field of a list
pub proper_at : (fs : List Field) (i : ℕ) → all_proper fs ≡ true → i < length fs → proper (get_or fs i blank) ≡ true
proper_at [] i h l = absurd (omega arith)
proper_at (f ∷ fs) zero h l = (and_parts (proper f) (all_proper fs) h).0
proper_at (f ∷ fs) (suc i) h l = proper_at fs i (and_parts (proper f) (all_proper fs) h).1 (omega arith)
