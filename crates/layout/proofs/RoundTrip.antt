-- Packing and unpacking undo each other, for any fields that the table may lay out.
use Rattle.std.proofs.Common.{cond, not, ◌≡◌, ℕ, zero, suc, ◌+◌, ◌-◌, ◌*◌, ◌/◌, ◌%◌, ◌^◌, ◌<◌, ◌≤◌, Bool, true, false, List, [], ◌∷◌, ◌++◌, length, get_or, take, drop, set, replicate, ℤ, pos, Some, None, Option, sym, refl, ap, ◌∙◌, inl, inr, append_assoc, mul_assoc, mul_comm, add-mul, arith}
use native.Mathlib.Nat.{zero-mod, sub-zero, add-mul-mod_self_right}
use Rattle.std.proofs.lemmas.List.{at_drop_more, at_drop_all, take_more, drop_more, length-take-le, set_at, length_push, get_or_at}
use Rattle.std.proofs.lemmas.Bool.{cond-true, cond-false, cases_Bool, and_parts}
use Rattle.std.proofs.lemmas.Nat.{mul-add-lt, pow-add, mod-pow-add, mod_below, pow_pos, div-mul-add, mod-mul-add, shl_whole}
use Rattle.std.specs.List.{position_from, sum_by, zip}
use Rattle.std.specs.Option.{option_map}
use Rattle.std.proofs.lemmas.List.Sums.{sum_by-cons}
use Rattle.layout.specs.Fields.{admits, at, figure_of, stored_as}
use Rattle.layout.specs.Sound.{all_proper, proper}
use Rattle.layout.specs.Packing.{First, FirstOut, InRange, bits_of, figures_in, first_out_of_range, packed, filled}
use Rattle.layout.specs.declared.field.Field.{Field}
use Rattle.layout.proofs.Stored.{blank, stored_below, stored_figure, figure_stored, admits_parts, admits_from}

-- what the test said of a figure that was read from an array
pub read_admits : (f : Field) (xs : List ℤ) (x x' : ℤ) (r t : Bool) → x ≡ x' → r ≡ admits f xs x → r ≡ t → admits f xs x' ≡ t
read_admits f xs x x' r t e a b = ap (admits f xs) (sym e) ∙ sym a ∙ b

-- the first field out of range, from a place on: where the field there may hold its figure, and where not
pub bad_past : (fs : List Field) (i : ℕ) (x : List ℤ) → i < length fs → admits (get_or fs i blank) x (at x i) ≡ true → first_out_of_range (drop i fs) i x ≡ first_out_of_range (drop (i + 1) fs) (i + 1) x
bad_past fs i x l a = at_drop_more (λ gs. first_out_of_range gs i x) fs i blank l ∙ cond-true _ _ _ a

pub bad_here : (fs : List Field) (i : ℕ) (x : List ℤ) → i < length fs → admits (get_or fs i blank) x (at x i) ≡ false → first_out_of_range (drop i fs) i x ≡ Some (i + 2)
bad_here fs i x l a = at_drop_more (λ gs. first_out_of_range gs i x) fs i blank l ∙ cond-false _ _ _ a

-- figures in range from a place on: the one there, and those behind it
pub range_step : (fs : List Field) (i : ℕ) (x : List ℤ) → i < length fs → InRange (drop i fs) i x → (admits (get_or fs i blank) x (at x i) ≡ true) × InRange (drop (i + 1) fs) (i + 1) x
range_step fs i x l s =
    let t : InRange (get_or fs i blank ∷ drop (i + 1) fs) i x = rw (drop_more fs i blank l) at s in
    (admits_from (get_or fs i blank) _ _ t.0 t.1 t.2, t.3)

-- no field is out of range exactly where all are in range
pub range_from_none : (fs : List Field) (i : ℕ) (x : List ℤ) → first_out_of_range fs i x ≡ None → InRange fs i x
range_from_none [] i x e = tt
range_from_none (f ∷ fs) i x e =
    elim (cases_Bool (admits f x (at x i))) [
      | inl h ↦ (let p = admits_parts f x (at x i) h in
          (p.0, p.1, p.2, range_from_none fs (i + 1) x (sym (cond-true _ _ _ h) ∙ e)))
      | inr h ↦ (let z : ◌≡◌ {A = ℕ} 0 1 = cc (sym (cond-false (admits f x (at x i)) (first_out_of_range fs (i + 1) x) (Some (i + 2)) h) ∙ e) in absurd (omega arith))
    ]

pub none_from_range : (fs : List Field) (i : ℕ) (x : List ℤ) → InRange fs i x → first_out_of_range fs i x ≡ None
none_from_range [] i x s = refl
none_from_range (f ∷ fs) i x s = cond-true _ _ _ (admits_from f _ _ s.0 s.1 s.2) ∙ none_from_range fs (i + 1) x s.3

-- the first field out of range is first
split_more : (f : Field) (fs : List Field) (i : ℕ) (x : List ℤ) (n : ℕ) → InRange (f ∷ []) i x → FirstOut fs (i + 1) x n → FirstOut (f ∷ fs) i x n
split_more f fs i x n s o =
    let place : i + 1 + length o.before ≡ i + length (f ∷ o.before) = omega arith in
    record {
      before = f ∷ o.before;
      here = o.here;
      after = o.after;
      split = ap (λ gs. f ∷ gs) o.split;
      counted = o.counted ∙ ap (λ j. j + 2) place;
      kept = (s.0, s.1, s.2, o.kept);
      broken = ap (λ j. admits o.here x (at x j)) (sym place) ∙ o.broken;
    }

first_out : (fs : List Field) (i : ℕ) (x : List ℤ) (n : ℕ) → first_out_of_range fs i x ≡ Some n → FirstOut fs i x n
first_out [] i x n e = let z : ◌≡◌ {A = ℕ} 0 1 = cc in absurd (omega arith)
first_out (f ∷ fs) i x n e =
    elim (cases_Bool (admits f x (at x i))) [
      | inl h ↦ (let p = admits_parts f x (at x i) h in split_more f fs i x n (p.0, p.1, p.2, tt) (first_out fs (i + 1) x n (sym (cond-true _ _ _ h) ∙ e)))
      | inr h ↦
          (let here : Some (i + 2) ≡ Some n = sym (cond-false (admits f x (at x i)) (first_out_of_range fs (i + 1) x) (Some (i + 2)) h) ∙ e in
          let same : n ≡ i + 2 = cc in
          let place : i + 0 ≡ i = omega arith in
          record {
            before = [];
            here = f;
            after = fs;
            split = refl;
            counted = same ∙ ap (λ j. j + 2) (sym place);
            kept = tt;
            broken = ap (λ j. admits f x (at x j)) place ∙ h;
          })
    ]

first_of : (fs : List Field) (i : ℕ) (x : List ℤ) (o : Option ℕ) → first_out_of_range fs i x ≡ o → First fs i x o
first_of fs i x None e = range_from_none fs i x e
first_of fs i x (Some n) e = first_out fs i x n e

pub first_is : (fs : List Field) (i : ℕ) (x : List ℤ) (o : Option ℕ) → o ≡ first_out_of_range fs i x → First fs i x o
first_is fs i x o e = first_of fs i x o (sym e)

-- widths
bits_push : (fs : List Field) (f : Field) → bits_of (fs ++ f ∷ []) ≡ bits_of fs + f.width
bits_push [] f = omega arith
bits_push (g ∷ fs) f = omega (arith, bits_push fs f)

pub bits_take_more : (fs : List Field) (i : ℕ) → i < length fs → bits_of (take (i + 1) fs) ≡ bits_of (take i fs) + (get_or fs i blank).width
bits_take_more fs i l = ap bits_of (take_more fs i blank l) ∙ bits_push (take i fs) (get_or fs i blank)

pub bits_take_le : (fs : List Field) (n : ℕ) → bits_of (take n fs) ≤ bits_of fs
bits_take_le [] zero = omega arith
bits_take_le [] (suc n) = omega arith
bits_take_le (f ∷ fs) zero = omega arith
bits_take_le (f ∷ fs) (suc n) = omega (arith, bits_take_le fs n)

pub bits_drop_more : (fs : List Field) (i : ℕ) → i < length fs → bits_of (drop i fs) ≡ (get_or fs i blank).width + bits_of (drop (i + 1) fs)
bits_drop_more fs i l = at_drop_more bits_of fs i blank l

-- one figure more is read
figures_push : (fs : List Field) (f : Field) (left n : ℕ) → figures_in (fs ++ f ∷ []) left n ≡ figures_in fs left n ++ figure_of f (n / 2 ^ (left - bits_of fs - f.width) % 2 ^ f.width) ∷ []
figures_push [] f left n =
    let a : left - 0 - f.width ≡ left - f.width = omega arith in
    ap (λ k. figure_of f (n / 2 ^ k % 2 ^ f.width) ∷ []) (sym a)
figures_push (g ∷ fs) f left n =
    let a : left - g.width - bits_of fs - f.width ≡ left - bits_of (g ∷ fs) - f.width = omega arith in
    ap (λ ys. figure_of g (n / 2 ^ (left - g.width) % 2 ^ g.width) ∷ ys)
    (figures_push fs f (left - g.width) n ∙ ap (λ k. figures_in fs (left - g.width) n ++ figure_of f (n / 2 ^ k % 2 ^ f.width) ∷ []) a)

pub length_figures : (fs : List Field) (left n : ℕ) → length (figures_in fs left n) ≡ length fs
length_figures [] left n = refl
length_figures (f ∷ fs) left n = ap suc (length_figures fs (left - f.width) n)

-- a figure takes the place of the first of the zeros behind the figures
filled_more : (xs : List ℤ) (y : ℤ) (i : ℕ) → length xs ≡ i → i < 11 → set (filled xs) i y ≡ filled (xs ++ y ∷ [])
filled_more xs y i e l =
    let rest = replicate (11 - (length xs + 1)) (pos 0) in
    let a : 11 - length xs ≡ suc (11 - (length xs + 1)) = omega arith in
    ap (λ n. set (xs ++ replicate n (pos 0)) i y) a
    ∙ set_at xs (pos 0) rest y i e
    ∙ sym (append_assoc xs (y ∷ []) rest)
    ∙ ap (λ n. (xs ++ y ∷ []) ++ replicate (11 - n) (pos 0)) (sym (length_push xs y))

-- one turn of the loop that unpacks
pub unpack_step : (fs : List Field) (i n : ℕ) (xs : List ℤ) (y : ℤ) → i < length fs → length fs ≤ 11 → xs ≡ filled (figures_in (take i fs) 124 n) → y ≡ figure_of (get_or fs i blank) (n / 2 ^ (124 - bits_of (take i fs) - (get_or fs i blank).width) % 2 ^ (get_or fs i blank).width) → set xs i y ≡ filled (figures_in (take (i + 1) fs) 124 n)
unpack_step fs i n xs y l few ex ey =
    let f = get_or fs i blank in
    let ys = figures_in (take i fs) 124 n in
    let len : length ys ≡ i = length_figures (take i fs) 124 n ∙ length-take-le i fs (omega arith) in
    ap (λ zs. set zs i y) ex
    ∙ filled_more ys y i len (omega arith)
    ∙ ap (λ z. filled (ys ++ z ∷ [])) ey
    ∙ ap filled (sym (figures_push (take i fs) f 124 n))
    ∙ ap (λ gs. filled (figures_in gs 124 n)) (sym (take_more fs i blank l))

regroup : (m a b v p : ℕ) → m * (a * b) + (v * b + p) ≡ (m * a + v) * b + p
regroup m a b v p = omega (arith, add-mul (m * a) v b, mul_assoc m a b)

pub packed_below : (fs : List Field) (left i : ℕ) (x : List ℤ) → all_proper fs ≡ true → InRange fs i x → bits_of fs ≤ left → packed fs left i x < 2 ^ left
packed_below [] left i x a s t = pow_pos left
packed_below (f ∷ fs) left i x a s t =
    let w = f.width in
    let k = left - w in
    let e : w + k ≡ left = omega arith in
    let h = and_parts (proper f) (all_proper fs) a in
    let r : stored_as f (at x i) < 2 ^ w = stored_below f (at x i) h.0 s.0 s.1 in
    let q : packed fs k (i + 1) x < 2 ^ k = packed_below fs k (i + 1) x h.1 s.3 (omega arith) in
    let m : stored_as f (at x i) * 2 ^ k + packed fs k (i + 1) x < 2 ^ k * 2 ^ w = mul-add-lt (stored_as f (at x i)) (2 ^ k) (packed fs k (i + 1) x) (2 ^ w) r q in
    let p : 2 ^ left ≡ 2 ^ w * 2 ^ k = ap (λ j. 2 ^ j) (sym e) ∙ pow-add 2 w k in
    rw p (rw (mul_comm (2 ^ w) (2 ^ k)) m)

-- what was read, packed again, is what was read, where the padding is zero
pub packed_read : (fs : List Field) (left n i : ℕ) (pre : List ℤ) → all_proper fs ≡ true → length pre ≡ i → bits_of fs ≤ left → n % 2 ^ (left - bits_of fs) ≡ 0 → packed fs left i (pre ++ figures_in fs left n) ≡ n % 2 ^ left
packed_read [] left n i pre a len t z = sym (simp sub-zero at z)
packed_read (f ∷ fs) left n i pre a len t z =
    let w = f.width in
    let k = left - w in
    let v = n / 2 ^ k % 2 ^ w in
    let y = figure_of f v in
    let xs = pre ++ figures_in (f ∷ fs) left n in
    let h = and_parts (proper f) (all_proper fs) a in
    let e : w + k ≡ left = omega arith in
    let e' : k - bits_of fs ≡ left - bits_of (f ∷ fs) = omega arith in
    let low : v < 2 ^ w = mod_below (n / 2 ^ k) (2 ^ w) (pow_pos w) in
    let here : at xs i ≡ y = get_or_at pre y (figures_in fs k n) (pos 0) i len in
    let r : stored_as f (at xs i) ≡ v = ap (stored_as f) here ∙ stored_figure f v h.0 low in
    let rest : packed fs k (i + 1) (pre ++ y ∷ [] ++ figures_in fs k n) ≡ n % 2 ^ k = packed_read fs k n (i + 1) (pre ++ y ∷ []) h.1 (length_push pre y ∙ ap (λ j. j + 1) len) (omega arith) (ap (λ j. n % 2 ^ j) e' ∙ z) in
    let q : packed fs k (i + 1) xs ≡ n % 2 ^ k = ap (packed fs k (i + 1)) (sym (append_assoc pre (y ∷ []) (figures_in fs k n))) ∙ rest in
    ap (λ j. j * 2 ^ k + packed fs k (i + 1) xs) r ∙ ap (λ j. v * 2 ^ k + j) q ∙ sym (mod-pow-add n w k) ∙ ap (λ j. n % 2 ^ j) e

-- what was packed is read again, whatever stands in higher bits
pub read_packed : (fs : List Field) (left m i : ℕ) (x : List ℤ) → all_proper fs ≡ true → InRange fs i x → bits_of fs ≤ left → length x ≡ i + length fs → (n : ℕ) → n ≡ m * 2 ^ left + packed fs left i x → figures_in fs left n ≡ drop i x
read_packed [] left m i x a s t len n e = sym (at_drop_all (λ ys. ys) x i (omega arith))
read_packed (f ∷ fs) left m i x a s t len n e =
    let w = f.width in
    let k = left - w in
    let v = stored_as f (at x i) in
    let p = packed fs k (i + 1) x in
    let h = and_parts (proper f) (all_proper fs) a in
    let ek : w + k ≡ left = omega arith in
    let r : v < 2 ^ w = stored_below f (at x i) h.0 s.0 s.1 in
    let q : p < 2 ^ k = packed_below fs k (i + 1) x h.1 s.3 (omega arith) in
    let e1 : n ≡ (m * 2 ^ w + v) * 2 ^ k + p = e ∙ ap (λ j. m * 2 ^ j + (v * 2 ^ k + p)) (sym ek) ∙ ap (λ j. m * j + (v * 2 ^ k + p)) (pow-add 2 w k) ∙ regroup m (2 ^ w) (2 ^ k) v p in
    let e2 : n / 2 ^ k ≡ m * 2 ^ w + v = ap (λ j. j / 2 ^ k) e1 ∙ div-mul-add (m * 2 ^ w + v) (2 ^ k) p q in
    let e3 : n / 2 ^ k % 2 ^ w ≡ v = ap (λ j. j % 2 ^ w) e2 ∙ mod-mul-add m (2 ^ w) v r in
    let here : figure_of f (n / 2 ^ k % 2 ^ w) ≡ at x i = ap (figure_of f) e3 ∙ sym (figure_stored f (at x i) h.0 s.0 s.1) in
    let rest : figures_in fs k n ≡ drop (i + 1) x = read_packed fs k (m * 2 ^ w + v) (i + 1) x h.1 s.3 (omega arith) (omega arith) n e1 in
    ap (λ y. y ∷ figures_in fs k n) here ∙ ap (λ ys. at x i ∷ ys) rest ∙ sym (drop_more x i (pos 0) (omega arith))

-- the padding is zero
pub padding_zero : (fs : List Field) (left i : ℕ) (x : List ℤ) → bits_of fs ≤ left → packed fs left i x % 2 ^ (left - bits_of fs) ≡ 0
padding_zero [] left i x t = zero-mod (2 ^ (left - 0))
padding_zero (f ∷ fs) left i x t =
    let k = left - f.width in
    let d = left - bits_of (f ∷ fs) in
    let v = stored_as f (at x i) in
    let p = packed fs k (i + 1) x in
    let e : bits_of fs + d ≡ k = omega arith in
    let e' : d ≡ k - bits_of fs = omega arith in
    let a : v * 2 ^ k + p ≡ p + v * 2 ^ bits_of fs * 2 ^ d = ap (λ j. v * 2 ^ j + p) (sym e) ∙ ap (λ j. v * j + p) (pow-add 2 (bits_of fs) d) ∙ omega (arith, mul_assoc v (2 ^ bits_of fs) (2 ^ d)) in
    ap (λ j. j % 2 ^ d) a ∙ add-mul-mod_self_right p (v * 2 ^ bits_of fs) (2 ^ d) ∙ ap (λ j. p % 2 ^ j) e' ∙ padding_zero fs k (i + 1) x (omega arith)

-- the loop that packs: the fields that are left, the figures that are left of x, and the bits that are left
pub record ToPack (fs : List Field) (ys x : List ℤ) (i left : ℕ) : Type 0 where
  pub figures_left : ys ≡ drop i x
  pub enough : i + length fs ≤ length x
  pub each : all_proper fs ≡ true
  pub in_range : InRange fs i x
  pub below : left ≤ 124
  pub room : bits_of fs ≤ left

-- one turn of it
pub record Turn (f : Field) (fs : List Field) (y : ℤ) (ys x : List ℤ) (i left : ℕ) : Type 0 where
  pub here : at x i ≡ y
  pub proper_here : proper f ≡ true
  pub admitted : admits f x y ≡ true
  pub narrow : f.width ≤ left
  pub next : ToPack fs ys x (i + 1) (left - f.width)

pub turn : (f : Field) (fs : List Field) (y : ℤ) (ys x : List ℤ) (i left : ℕ) → ToPack (f ∷ fs) (y ∷ ys) x i left → Turn f fs y ys x i left
turn f fs y ys x i left t =
    let s : y ∷ ys ≡ at x i ∷ drop (i + 1) x = t.figures_left ∙ drop_more x i (pos 0) (omega (arith, t.enough)) in
    let here : at x i ≡ y = cc in
    let behind : ys ≡ drop (i + 1) x = cc in
    let a = and_parts (proper f) (all_proper fs) t.each in
    let r = t.in_range in
    record {
      here = here;
      proper_here = a.0;
      admitted = ap (admits f x) (sym here) ∙ admits_from f x (at x i) r.0 r.1 r.2;
      narrow = omega (arith, t.room);
      next = record { figures_left = behind; enough = omega (arith, t.enough); each = a.1; in_range = r.3; below = omega (arith, t.below); room = omega (arith, t.room) };
    }

pub pack_step : (f : Field) (fs : List Field) (i left : ℕ) (x : List ℤ) (r : ℕ) → r < 2 ^ f.width → f.width ≤ left → left ≤ 124 → r ≡ stored_as f (at x i) → r * 2 ^ (left - f.width) % 2 ^ 128 + packed fs (left - f.width) (i + 1) x ≡ packed (f ∷ fs) left i x
pack_step f fs i left x r b t u e =
    let k = left - f.width in
    ap (λ v. v + packed fs k (i + 1) x) (shl_whole r f.width k 128 b (omega arith))
    ∙ ap (λ v. v * 2 ^ k + packed fs k (i + 1) x) e

-- the same, of the fields from a place on
pub pack_step_from : (fs : List Field) (i left : ℕ) (x : List ℤ) (w r : ℕ) → i < length fs → proper (get_or fs i blank) ≡ true → InRange (drop i fs) i x → bits_of (drop i fs) ≤ left → left ≤ 124 → w ≡ (get_or fs i blank).width → r ≡ stored_as (get_or fs i blank) (at x i) → r * 2 ^ (left - w) % 2 ^ 128 + packed (drop (i + 1) fs) (left - w) (i + 1) x ≡ packed (drop i fs) left i x
pack_step_from fs i left x w r l h s t u ew er =
    let f = get_or fs i blank in
    let p : InRange (f ∷ drop (i + 1) fs) i x = rw (drop_more fs i blank l) at s in
    let b : r < 2 ^ f.width = rw er (stored_below f (at x i) h p.0 p.1) in
    ap (λ v. r * 2 ^ (left - v) % 2 ^ 128 + packed (drop (i + 1) fs) (left - v) (i + 1) x) ew
    ∙ pack_step f (drop (i + 1) fs) i left x r b (omega (arith, bits_drop_more fs i l)) u er
    ∙ sym (at_drop_more (λ gs. packed gs left i x) fs i blank l)

-- the first field out of range, by the place of the first pair of field and figure that fails the test
abbrev pub fails : List ℤ → Field × ℤ → Bool
fails x p = not (admits p.0 x p.1)

pub first_place : (fs : List Field) (i : ℕ) (x : List ℤ) → i + length fs ≤ length x → option_map (λ place. place + 2) (position_from (fails x) i (zip fs (drop i x))) ≡ first_out_of_range fs i x
first_place [] i x l = refl
first_place (f ∷ fs) i x l =
    let y = at x i in
    let rest = position_from (fails x) (i + 1) (zip fs (drop (i + 1) x)) in
    let e : drop i x ≡ y ∷ drop (i + 1) x = drop_more x i (pos 0) (omega arith) in
    let here : option_map (λ place. place + 2) (position_from (fails x) i (zip (f ∷ fs) (drop i x))) ≡ option_map (λ place. place + 2) (cond (not (admits f x y)) (Some i) rest) = ap (λ ys. option_map (λ place. place + 2) (position_from (fails x) i (zip (f ∷ fs) ys))) e in
    elim (cases_Bool (admits f x y)) [
      | inl h ↦ here ∙ ap (λ b. option_map (λ place. place + 2) (cond (not b) (Some i) rest)) h ∙ first_place fs (i + 1) x (omega arith) ∙ sym (cond-true _ _ _ h)
      | inr h ↦ here ∙ ap (λ b. option_map (λ place. place + 2) (cond (not b) (Some i) rest)) h ∙ sym (cond-false _ _ _ h)
    ]

-- the widths, added up
pub bits_sum : (fs : List Field) → sum_by (λ f. f.width) fs ≡ bits_of fs
bits_sum [] = refl
bits_sum (f ∷ fs) = sum_by-cons (λ (g : Field). g.width) f fs ∙ ap (λ n. f.width + n) (bits_sum fs)
