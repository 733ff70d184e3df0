-- Bytes and the number that they write, the highest first.
use Rattle.std.proofs.Common.{◌≡◌, ℕ, zero, suc, ◌+◌, ◌*◌, ◌/◌, ◌%◌, ◌^◌, ◌<◌, ◌≤◌, ◌-◌, List, [], ◌∷◌, length, get_or, take, drop, sym, refl, ap, ◌∙◌, mul_assoc, add-mul, div-one, pow-suc, arith}
use native.Mathlib.Nat.{mod-one, mul-suc}
use Rattle.std.specs.Int.Digits.{number_from_digits, number_from_digits_after, AllBelowBase}
use Rattle.std.proofs.lemmas.Nat.{pow-add, pow_pos, mod-pow-add, mod_below, mod-mul-add, div-mul-add, mul-add-lt}
use Rattle.std.specs.Int.{byte_at, bytes_high_first, byte_worth, sum_through, from_be_bytes, to_be_bytes, w128}
use Rattle.std.specs.Simd.{first_chunks}
use Rattle.std.proofs.lemmas.Int.Digits.{number_more}
use Rattle.std.proofs.lemmas.List.{drop-drop, take_all}

bits_of_bytes : (k : ℕ) → 256 ^ k ≡ 2 ^ (8 * k)
bits_of_bytes zero = refl
bits_of_bytes (suc k) =
    let e : 8 + 8 * k ≡ 8 * suc k = omega arith in
    let q : 2 ^ (8 * suc k) ≡ 2 ^ 8 * 2 ^ (8 * k) = ap (λ j. 2 ^ j) (sym e) ∙ pow-add 2 8 (8 * k) in
    omega (arith, pow-suc 256 k, bits_of_bytes k, q)

-- byte i of a number, by a power of two
byte_is : (i n : ℕ) → byte_at i n ≡ n / 2 ^ (8 * i) % 2 ^ 8
byte_is zero n = ap (λ j. j % 256) (sym (div-one n))
byte_is (suc i) n = ap (λ p. n / p % 256) (bits_of_bytes (suc i))

pub number_bytes : (k m n : ℕ) → number_from_digits_after 256 m (bytes_high_first k n) ≡ m * 2 ^ (8 * k) + n % 2 ^ (8 * k)
number_bytes zero m n = omega (arith, mod-one n)
number_bytes (suc k) m n =
    let P = 2 ^ (8 * k) in
    let d = n / P % 2 ^ 8 in
    let e : 8 + 8 * k ≡ 8 * suc k = omega arith in
    let q : 2 ^ (8 * suc k) ≡ 2 ^ 8 * P = ap (λ j. 2 ^ j) (sym e) ∙ pow-add 2 8 (8 * k) in
    let r : n % 2 ^ (8 * suc k) ≡ d * P + n % P = ap (λ j. n % 2 ^ j) (sym e) ∙ mod-pow-add n 8 (8 * k) in
    ap (λ b. number_from_digits_after 256 (m * 256 + b) (bytes_high_first k n)) (byte_is k n) ∙ number_bytes k (m * 256 + d) n ∙ omega (arith, add-mul (m * 256) d P, mul_assoc m 256 P, ap (λ j. m * j) q)

pub under_bytes : (k n : ℕ) → AllBelowBase 256 (bytes_high_first k n)
under_bytes zero n = tt
under_bytes (suc k) n = (rw (byte_is k n) (mod_below (n / 2 ^ (8 * k)) (2 ^ 8) (pow_pos 8)), under_bytes k n)

pub length_bytes : (k n : ℕ) → length (bytes_high_first k n) ≡ k
length_bytes zero n = refl
length_bytes (suc k) n = ap suc (length_bytes k n)

-- what follows a front of value m
after_is : (ds : List ℕ) (m : ℕ) → AllBelowBase 256 ds → (v : ℕ) × (number_from_digits_after 256 m ds ≡ m * 2 ^ (8 * length ds) + v) × (v < 2 ^ (8 * length ds))
after_is [] m u = (0, omega arith, omega arith)
after_is (d ∷ ds) m u =
    let r = after_is ds (m * 256 + d) u.1 in
    let P = 2 ^ (8 * length ds) in
    let e : 8 + 8 * length ds ≡ 8 * length (d ∷ ds) = omega arith in
    let q : 2 ^ (8 * length (d ∷ ds)) ≡ 2 ^ 8 * P = ap (λ j. 2 ^ j) (sym e) ∙ pow-add 2 8 (8 * length ds) in
    let b : d * P + r.0 < P * 256 = mul-add-lt d P r.0 256 u.0 r.2 in
    (d * P + r.0, omega (arith, r.1, add-mul (m * 256) d P, mul_assoc m 256 P, ap (λ j. m * j) q), omega arith)

pub bytes_number : (ds : List ℕ) (m : ℕ) → AllBelowBase 256 ds → bytes_high_first (length ds) (number_from_digits_after 256 m ds) ≡ ds
bytes_number [] m u = refl
bytes_number (d ∷ ds) m u =
    let r = after_is ds (m * 256 + d) u.1 in
    let P = 2 ^ (8 * length ds) in
    let N = number_from_digits_after 256 m (d ∷ ds) in
    let e : N / P % 256 ≡ d = ap (λ j. j / P % 256) r.1 ∙ ap (λ j. j % 256) (div-mul-add (m * 256 + d) P r.0 r.2) ∙ mod-mul-add m 256 d u.0 in
    ap (λ j. j ∷ bytes_high_first (length ds) N) (byte_is (length ds) N ∙ e) ∙ ap (λ j. d ∷ j) (bytes_number ds (m * 256 + d) u.1)

-- the bytes of a number of 128 bits, highest first
pub be_bytes : (n : ℕ) → (n / 1329227995784915872903807060280344576 % 256) ∷ (n / 5192296858534827628530496329220096 % 256) ∷ (n / 20282409603651670423947251286016 % 256) ∷ (n / 79228162514264337593543950336 % 256) ∷ (n / 309485009821345068724781056 % 256) ∷ (n / 1208925819614629174706176 % 256) ∷ (n / 4722366482869645213696 % 256) ∷ (n / 18446744073709551616 % 256) ∷ (n / 72057594037927936 % 256) ∷ (n / 281474976710656 % 256) ∷ (n / 1099511627776 % 256) ∷ (n / 4294967296 % 256) ∷ (n / 16777216 % 256) ∷ (n / 65536 % 256) ∷ (n / 256 % 256) ∷ (n % 256) ∷ [] ≡ to_be_bytes w128 n
be_bytes n = refl

-- the chunk of a place
pub chunk_at : {X : Type 0} (n k i : ℕ) (xs : List X) (d : List X) → i < k → get_or (first_chunks n k xs) i d ≡ take n (drop (n * i) xs)
chunk_at n zero i xs d l = absurd (omega arith)
chunk_at n (suc k) zero xs d l = let e : 0 ≡ n * 0 = omega arith in ap (λ j. take n (drop j xs)) e
chunk_at n (suc k) (suc i) xs d l =
    let e : n + n * i ≡ n * suc i = omega (arith, mul-suc n i) in
    chunk_at n k i (drop n xs) d (omega arith) ∙ ap (take n) (drop-drop (n * i) n xs ∙ ap (λ j. drop j xs) e)

worth : (i b : ℕ) → byte_worth i b ≡ b * 256 ^ i
worth zero b = omega arith
worth (suc i) b = refl

-- the sum of the highest bytes of a number of m + 1 bytes
highest : (m : ℕ) (bs : List ℕ) (j : ℕ) → j ≤ m → m < length bs → sum_through (λ i. byte_worth (m - i) (get_or bs i 0)) j ≡ number_from_digits 256 (take (j + 1) bs) * 256 ^ (m - j)
highest m bs zero l f =
    let t : get_or bs 0 0 ≡ number_from_digits 256 (take (0 + 1) bs) = omega (arith, number_more 256 bs 0 (omega arith)) in
    worth (m - 0) (get_or bs 0 0) ∙ ap (λ n. n * 256 ^ (m - 0)) t
highest m bs (suc j) l f =
    let N = number_from_digits 256 (take (suc j) bs) in
    let b = get_or bs (suc j) 0 in
    let P = 256 ^ (m - suc j) in
    let s : j + 1 ≡ suc j = omega arith in
    let q : m - j ≡ 1 + (m - suc j) = omega (arith, l) in
    let p : 256 ^ (m - j) ≡ 256 * P = ap (λ k. 256 ^ k) q ∙ pow-add 256 1 (m - suc j) in
    let t : number_from_digits 256 (take (suc j + 1) bs) ≡ N * 256 + b = number_more 256 bs (suc j) (omega (arith, l, f)) in
    let h = highest m bs j (omega (arith, l)) f in
    let i : number_from_digits 256 (take (j + 1) bs) * 256 ^ (m - j) ≡ N * 256 * P = ap (λ k. number_from_digits 256 (take k bs) * 256 ^ (m - j)) s ∙ ap (λ x. N * x) p ∙ sym (mul_assoc N 256 P) in
    let w = worth (m - suc j) b in
    omega (arith, h, i, w, add-mul (N * 256) b P, ap (λ x. x * P) t)

-- the number that `from_be_bytes` reads
pub be_number : (bs : List ℕ) → length bs ≡ 16 → from_be_bytes w128 bs ≡ number_from_digits 256 bs
be_number bs l =
    highest 15 bs 15 (omega arith) (omega (arith, l)) ∙ omega arith ∙ ap (number_from_digits 256) (take_all 16 bs (omega (arith, l)))
