-- Text in a buffer, and how money is written.
use Rattle.std.specs.Prelude.{ℕ, suc, ◌+◌, ◌*◌, ◌/◌, ◌%◌, List, [], ◌∷◌, ◌++◌, length, take, drop, ℤ, pos, negsuc, decimal}

-- a buffer with some bytes from place i on
abbrev pub put : List ℕ → ℕ → List ℕ → List ℕ
put old i bs = take i old ++ (bs ++ drop (i + length bs) old)

-- one space parts a field from what stands before it
abbrev pub field : List ℕ → List ℕ
field bs = 32 ∷ bs

-- the last decimal digit of a number
abbrev pub digit : ℕ → ℕ
digit n = 48 + n % 10

-- a point and the last four digits of a number
abbrev pub point_and_four : ℕ → List ℕ
point_and_four n = 46 ∷ digit (n / 1000) ∷ digit (n / 100) ∷ digit (n / 10) ∷ digit n ∷ []

-- a number of ten-thousandths, with a point before the last four digits
abbrev pub ten_thousandths : ℕ → List ℕ
ten_thousandths n = decimal (n / 10000) ++ point_and_four n

-- money units in euros: a unit, a quarter of a cent, is 25 ten-thousandths of a euro
abbrev pub euros : ℕ → List ℕ
euros units = ten_thousandths (25 * units)

-- the minus stands in front
abbrev pub money : ℤ → List ℕ
money (pos n) = euros n
money (negsuc n) = 45 ∷ euros (suc n)
