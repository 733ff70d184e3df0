-- Seats of a list: one more turn of a loop over it, sums over several lists, and the first that fails a test.
use Rattle.std.proofs.Common.{◌≡◌, ℕ, zero, suc, ◌+◌, ◌*◌, ◌<◌, ◌≤◌, Bool, true, false, not, cond, ltb, List, [], ◌∷◌, ◌++◌, length, get_or, take, ℤ, pos, ◌+ℤ◌, Some, None, sym, refl, ap, ◌∙◌, arith, length-take}
use lib.IntN.{+ℤ_idr}
use Rattle.std.proofs.ByRecursion.{All-push}
use Rattle.std.proofs.lemmas.List.{take_more, take_all}
use Rattle.std.proofs.lemmas.Bool.{cond-false, cond-true}
use Rattle.std.proofs.lemmas.Bool.Decides.{nat_tests}
use Rattle.std.specs.List.{position, prefix_len, zip}
use Rattle.std.specs.List.{AllByRecursion}
use Rattle.std.proofs.Math.Nat.{mul-le-mul_left}
use Rattle.std.proofs.lemmas.Int.{ints}
use Rattle.limits.specs.Limits.{list_limit}
use Rattle.market.specs.Tests.{Within}
use Rattle.market.specs.Sums.{sum_over}
use Rattle.market.specs.Kinds.{Kind, Sound}
use Rattle.market.specs.declared.schedule.Schedule.{Schedule}
use Rattle.market.proofs.Sums.{over_append}
use Rattle.clearing.specs.Seats.{NamedList, Seat, joined, kinds_of, seat, seats}
use Rattle.clearing.specs.Rules.{First}
use Rattle.clearing.specs.Verdict.{first_failing, next}

module _ {X : Type 0} (kind : X → Kind) where
  seats_push : (xs : List X) (ss : List Schedule) (x : X) (s : Schedule) → length xs ≡ length ss → seats kind (xs ++ (x ∷ [])) (ss ++ (s ∷ [])) ≡ seats kind xs ss ++ (seat (kind x) s.megawatts ∷ [])
  unfolding seats
  seats_push [] [] x s e = refl
  seats_push [] (t ∷ ss) x s e = absurd (omega arith)
  seats_push (y ∷ xs) [] x s e = absurd (omega arith)
  seats_push (y ∷ xs) (t ∷ ss) x s e = ap (λ r. seat (kind y) t.megawatts ∷ r) (seats_push xs ss x s (omega arith))

  seats_more : (xs : List X) (ss : List Schedule) (i : ℕ) (x : X) (d : Schedule) → length ss ≡ length xs → i < length xs → seats kind (take (i + 1) xs) (take (i + 1) ss) ≡ seats kind (take i xs) (take i ss) ++ (seat (kind (get_or xs i x)) (get_or ss i d).megawatts ∷ [])
  seats_more xs ss i x d same below =
      let here : i < length ss = omega arith in
      let even : length (take i xs) ≡ length (take i ss) = simp length-take (omega arith) in
      ap (λ l. seats kind l (take (i + 1) ss)) (take_more xs i x below) ∙ ap (λ l. seats kind (take i xs ++ (get_or xs i x ∷ [])) l) (take_more ss i d here) ∙ seats_push (take i xs) (take i ss) (get_or xs i x) (get_or ss i d) even

  -- a sum over the seats: none, one more
  pub sum_none : (f : Seat → ℤ) (xs : List X) (ss : List Schedule) → sum_over f (seats kind (take 0 xs) (take 0 ss)) ≡ pos 0
  unfolding sum_over seats
  sum_none f xs ss = refl

  pub sum_more : (f : Seat → ℤ) (xs : List X) (ss : List Schedule) (i : ℕ) (x : X) (d : Schedule) → length ss ≡ length xs → i < length xs → (r : ℤ) → r ≡ f (seat (kind (get_or xs i x)) (get_or ss i d).megawatts) → sum_over f (seats kind (take (i + 1) xs) (take (i + 1) ss)) ≡ sum_over f (seats kind (take i xs) (take i ss)) +ℤ r
  unfolding sum_over
  sum_more f xs ss i x d same below r r-is =
      ap (sum_over f) (seats_more xs ss i x d same below)
      ∙ over_append f (seats kind (take i xs) (take i ss)) (seat (kind (get_or xs i x)) (get_or ss i d).megawatts ∷ [])
      ∙ ap (λ t. sum_over f (seats kind (take i xs) (take i ss)) +ℤ t) (+ℤ_idr (f (seat (kind (get_or xs i x)) (get_or ss i d).megawatts)) ∙ sym r-is)

  -- all of them
  pub seats_all : (xs : List X) (ss : List Schedule) (i : ℕ) → length ss ≡ length xs → length xs ≤ i → seats kind (take i xs) (take i ss) ≡ seats kind xs ss
  seats_all xs ss i same past =
      let past' : length ss ≤ i = omega arith in
      ap (λ l. seats kind l (take i ss)) (take_all i xs past) ∙ ap (seats kind xs) (take_all i ss past')

  -- what holds of each seat: none, one more
  pub all_none : (P : Seat → Type 0) (xs : List X) (ss : List Schedule) → AllByRecursion P (seats kind (take 0 xs) (take 0 ss))
  unfolding seats
  all_none P xs ss = tt

  pub all_more : (P : Seat → Type 0) (xs : List X) (ss : List Schedule) (i : ℕ) (x : X) (d : Schedule) → length ss ≡ length xs → i < length xs → AllByRecursion P (seats kind (take i xs) (take i ss)) → P (seat (kind (get_or xs i x)) (get_or ss i d).megawatts) → AllByRecursion P (seats kind (take (i + 1) xs) (take (i + 1) ss))
  all_more P xs ss i x d same below before here =
      rw (seats_more xs ss i x d same below) (All-push P (seats kind (take i xs) (take i ss)) (seat (kind (get_or xs i x)) (get_or ss i d).megawatts) before here)

  -- the first of which P does not hold
  pub first_here : (P : Seat → Type 0) (xs : List X) (ss : List Schedule) (i : ℕ) (x : X) (d : Schedule) → length ss ≡ length xs → i < length xs → AllByRecursion P (seats kind (take i xs) (take i ss)) → ¬ (P (seat (kind (get_or xs i x)) (get_or ss i d).megawatts)) → First P (seats kind xs ss) i
  unfolding seats
  first_here P [] ss i x d same below before bad = absurd (omega arith)
  first_here P (y ∷ xs) [] i x d same below before bad = absurd (omega arith)
  first_here P (y ∷ xs) (s ∷ ss) zero x d same below before bad = bad
  first_here P (y ∷ xs) (s ∷ ss) (suc i) x d same below before bad = (before.0, first_here P xs ss i x d (omega arith) (omega arith) before.1 bad)

  -- each kind is sound
  pub all_sound : (sound : (x : X) → Sound (kind x)) (xs : List X) (ss : List Schedule) → AllByRecursion Sound (kinds_of (seats kind xs ss))
  unfolding seats
  all_sound sound [] ss = tt
  all_sound sound (x ∷ xs) [] = tt
  all_sound sound (x ∷ xs) (s ∷ ss) = (sound x, all_sound sound xs ss)

-- ---- the first that fails a test
pub none_fails : (t : Seat → Bool) (ss : List Seat) → AllByRecursion (λ s. t s ≡ true) ss → first_failing t ss ≡ None
unfolding first_failing
none_fails t [] all = refl
none_fails t (s ∷ ss) all = cond-true (t s) (next (first_failing t ss)) (Some 0) all.0 ∙ ap next (none_fails t ss all.1)

pub first_fails : (t : Seat → Bool) (ss : List Seat) (n : ℕ) → First (λ s. t s ≡ true) ss n → first_failing t ss ≡ Some n
unfolding first_failing
first_fails t [] n bad = elim bad [ ]
first_fails t (s ∷ ss) zero bad = cond-false (t s) (next (first_failing t ss)) (Some 0) (false_here (t s) bad)
  where
    false_here : (b : Bool) → ¬ (b ≡ true) → b ≡ false
    false_here true n = absurd (n refl)
    false_here false n = refl
first_fails t (s ∷ ss) (suc n) (here, later) = cond-true (t s) (next (first_failing t ss)) (Some 0) here ∙ ap next (first_fails t ss n later)

-- ---- a sum of a list's seats stays within its limit
pub within_limit : (limit n : ℕ) (a : ℤ) → n ≤ list_limit → Within (limit * n) a → Within (list_limit * limit) a
within_limit limit n a few w = let m = mul-le-mul_left limit few in omega (arith, ints)

-- ---- over all lists
pub sum-joined : (f : Seat → ℤ) (lists : List NamedList) → sum_over f (joined lists) ≡ sum_over (λ (list : NamedList). sum_over f list.seats) lists
unfolding sum_over
sum-joined f [] = refl
sum-joined f (list ∷ lists) = over_append f list.seats (joined lists) ∙ ap (λ t. sum_over f list.seats +ℤ t) (sum-joined f lists)

sound_append : (xs ys : List Seat) → AllByRecursion Sound (kinds_of xs) → AllByRecursion Sound (kinds_of ys) → AllByRecursion Sound (kinds_of (xs ++ ys))
sound_append [] ys a b = b
sound_append (x ∷ xs) ys a b = (a.0, sound_append xs ys a.1 b)

pub sound_joined : (lists : List NamedList) → AllByRecursion (λ (list : NamedList). AllByRecursion Sound (kinds_of list.seats)) lists → AllByRecursion Sound (kinds_of (joined lists))
sound_joined [] a = tt
sound_joined (list ∷ lists) a = sound_append list.seats (joined lists) a.0 (sound_joined lists a.1)

-- ---- the first that fails a test, as `position` finds it among the pairs of a `zip`
next_place : (n m : ℕ) → cond (ltb (1 + n) (suc m)) (Some (1 + n)) None ≡ next (cond (ltb n m) (Some n) None)
next_place n m = grind (arith, nat_tests)

pub position_fails : {X : Type 0} (kind : X → Kind) (t : Seat → Bool) (xs : List X) (ss : List Schedule) → position (λ p. not (t (seat (kind p.0) p.1.megawatts))) (zip xs ss) ≡ first_failing t (seats kind xs ss)
unfolding first_failing seats
position_fails kind t [] ss = refl
position_fails kind t (x ∷ xs) [] = refl
position_fails {X = X} kind t (x ∷ xs) (s ∷ ss) = go (t (seat (kind x) s.megawatts)) (prefix_len passes (zip xs ss)) (length (zip xs ss)) (position_fails kind t xs ss)
  where
    passes : X × Schedule → Bool
    passes p = not (not (t (seat (kind p.0) p.1.megawatts)))

    go : (b : Bool) (n m : ℕ) → cond (ltb n m) (Some n) None ≡ first_failing t (seats kind xs ss) → cond (ltb (cond (not (not b)) (1 + n) 0) (suc m)) (Some (cond (not (not b)) (1 + n) 0)) None ≡ cond b (next (first_failing t (seats kind xs ss))) (Some 0)
    go true n m rest = next_place n m ∙ ap next rest
    go false n m rest = grind (arith, nat_tests)
