-- Bytes put one behind the other, and how long numbers and money are.
use Rattle.std.proofs.Common.{◌≡◌, ℕ, suc, ◌+◌, ◌*◌, ◌/◌, ◌%◌, ◌^◌, ◌<◌, ◌≤◌, false, List, [], ◌∷◌, ◌++◌, length, take, drop, ℤ, pos, negsuc, nat_abs, decimal, sym, refl, ap, ◌∙◌, append_assoc, arith, length-append, length-drop, w64, SFits, to_z, of_z}
use Rattle.std.proofs.lemmas.Fmt.{decimal_step, length-decimal-le}
use Rattle.std.proofs.lemmas.List.{take_at, drop_at, drop-drop, length-take-le, length_push}
use Rattle.std.proofs.lemmas.Int.{ints, to_z-of_z}
use Rattle.std.specs.Fmt.{sign_text}
use Rattle.std.specs.Int.{is_negative}
use Rattle.text.specs.Text.{digit, euros, field, money, point_and_four, put}

pub put-put : (old : List ℕ) (i : ℕ) (xs ys : List ℕ) → i ≤ length old → put (put old i xs) (i + length xs) ys ≡ put old i (xs ++ ys)
put-put old i xs ys l =
    let A = take i old in
    let n = i + length xs in
    let D = drop n old in
    let X = put old i xs in
    let len : length (A ++ xs) ≡ n = length-append A xs ∙ ap (λ j. j + length xs) (length-take-le i old l) in
    let e0 : X ≡ (A ++ xs) ++ D = sym (append_assoc A xs D) in
    let e1 : take n X ≡ A ++ xs = ap (take n) e0 ∙ take_at (A ++ xs) D n len in
    let e2 : drop n X ≡ D = ap (drop n) e0 ∙ drop_at (A ++ xs) D n len in
    let e3 : drop (n + length ys) X ≡ drop (n + length ys) old = sym (drop-drop (length ys) n X) ∙ ap (drop (length ys)) e2 ∙ drop-drop (length ys) n old in
    let e4 : n + length ys ≡ i + length (xs ++ ys) = omega (arith, length-append xs ys) in
    ap (λ z. z ++ (ys ++ drop (n + length ys) X)) e1
    ∙ ap (λ z. (A ++ xs) ++ (ys ++ z)) (e3 ∙ ap (λ j. drop j old) e4)
    ∙ append_assoc A xs _
    ∙ ap (λ z. A ++ z) (sym (append_assoc xs ys _))

pub length-put : (old : List ℕ) (i : ℕ) (xs : List ℕ) → i + length xs ≤ length old → length (put old i xs) ≡ length old
length-put old i xs l = simp (length-append, length-drop) (omega (arith, length-take-le i old (omega arith)))

-- bytes behind bytes that were put before
pub then_put : (old : List ℕ) (i : ℕ) (xs ys zs buf new : List ℕ) (end : ℕ) → i ≤ length old → buf ≡ put old i xs → end ≡ i + length xs → new ≡ put buf end ys → zs ≡ xs ++ ys → new ≡ put old i zs
then_put old i xs ys zs buf new end l eb ee en ez =
    en ∙ ap (λ z. put z end ys) eb ∙ ap (λ j. put (put old i xs) j ys) ee ∙ put-put old i xs ys l ∙ ap (put old i) (sym ez)

-- what stands in a buffer where one thing was put behind the other
pub record Stands (old : List ℕ) (i : ℕ) (bs buf : List ℕ) (end : ℕ) : Type 0 where
  pub text : buf ≡ put old i bs
  pub place : end ≡ i + length bs

pub stands_more : {old : List ℕ} {i : ℕ} {xs buf : List ℕ} {end : ℕ} (ys : List ℕ) {new : List ℕ} {end' : ℕ} → i ≤ length old → Stands old i xs buf end → end' ≡ end + length ys → new ≡ put buf end ys → Stands old i (xs ++ ys) new end'
stands_more {old} {i} {xs} {buf} {end} ys {new} {end'} l s e n =
    record { text = then_put old i xs ys (xs ++ ys) buf new end l s.text s.place n refl; place = omega (arith, length-append xs ys, s.place) }

pub length_more : (n : ℕ) → 10 ≤ n → n < 2 ^ 64 → length (decimal n) ≡ length (decimal (n / 10)) + 1
length_more n h l = ap length (decimal_step n h l) ∙ length_push (decimal (n / 10)) (48 + n % 10)

-- 400 units are a euro, and each of the rest is 25 ten-thousandths
whole_euros : (n : ℕ) → 25 * n / 10000 ≡ n / 400
whole_euros n = omega arith

-- the tens of a number do not show in its last digit
last_digit : (a b k : ℕ) → a ≡ 10 * k + b → digit a ≡ digit b
last_digit a b k e = omega arith

pub euros_parts : (n : ℕ) → decimal (n / 400) ++ point_and_four (n % 400 * 25) ≡ euros n
euros_parts n =
    let q = n / 400 in
    let m = n % 400 * 25 in
    let e : 25 * n ≡ 10000 * q + m = omega arith in
    let w = whole_euros n in
    let a = last_digit (25 * n / 1000) (m / 1000) q (omega (arith, e)) in
    let b = last_digit (25 * n / 100) (m / 100) (10 * q) (omega (arith, e)) in
    let c = last_digit (25 * n / 10) (m / 10) (100 * q) (omega (arith, e)) in
    let d = last_digit (25 * n) m (1000 * q) (omega (arith, e)) in
    ap (λ z. decimal z ++ (46 ∷ digit (m / 1000) ∷ digit (m / 100) ∷ digit (m / 10) ∷ digit m ∷ [])) (sym w)
    ∙ ap (λ z. decimal (25 * n / 10000) ++ (46 ∷ z ∷ digit (m / 100) ∷ digit (m / 10) ∷ digit m ∷ [])) (sym a)
    ∙ ap (λ z. decimal (25 * n / 10000) ++ (46 ∷ digit (25 * n / 1000) ∷ z ∷ digit (m / 10) ∷ digit m ∷ [])) (sym b)
    ∙ ap (λ z. decimal (25 * n / 10000) ++ (46 ∷ digit (25 * n / 1000) ∷ digit (25 * n / 100) ∷ z ∷ digit m ∷ [])) (sym c)
    ∙ ap (λ z. decimal (25 * n / 10000) ++ (46 ∷ digit (25 * n / 1000) ∷ digit (25 * n / 100) ∷ digit (25 * n / 10) ∷ z ∷ [])) (sym d)

pub length-euros : (n : ℕ) → length (euros n) ≡ length (decimal (n / 400)) + 5
length-euros n = length-append (decimal (25 * n / 10000)) _ ∙ ap (λ j. length (decimal j) + 5) (whole_euros n)

-- an amount as a field is its sign and its euros
pub money_field : (z : ℤ) → field (money z) ≡ field (sign_text (is_negative z)) ++ euros (nat_abs z)
money_field (pos n) = let e : is_negative (pos n) ≡ false = grind (arith, ints) in ap (λ b. field (sign_text b) ++ euros n) (sym e)
money_field (negsuc n) = refl

length-money : (z : ℤ) → SFits w64 z → length (money z) ≤ 23
length-money (pos n) f = omega (arith, length-euros n, length-decimal-le 17 (n / 400) (omega arith) (omega (arith, f.sfits)) (omega (arith, f.sfits)))
length-money (negsuc n) f = omega (arith, length-euros (suc n), length-decimal-le 17 (suc n / 400) (omega arith) (omega (arith, f.sfits)) (omega (arith, f.sfits)))

-- how long a field of a line is at most: a number of 8 bits, one of 16 bits, an amount that was passed on
pub field_of_byte : (n : ℕ) → n < 256 → length (field (decimal n)) ≤ 4
field_of_byte n h = omega (arith, length-decimal-le 3 n (omega arith) (omega arith) (omega arith))

pub field_of_number : (n : ℕ) → n < 65536 → length (field (decimal n)) ≤ 6
field_of_number n h = omega (arith, length-decimal-le 5 n (omega arith) (omega arith) (omega arith))

pub field_of_money : (z : ℤ) → SFits w64 z → length (field (money (to_z w64 (of_z w64 z)))) ≤ 24
field_of_money z f = let e = ap (λ y. length (money y)) (to_z-of_z w64 z f) in omega (arith, length-money z f)
