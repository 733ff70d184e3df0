-- Four figures and the four values that stand for them.
use Rattle.std.proofs.Common.{◌≡◌, ℕ, ◌<◌, List, [], ◌∷◌, ℤ, pos, negsuc, ◌≤ℤ◌, Ok, Result, arith}
use Rattle.std.proofs.lemmas.Int.{ints}
use Rattle.std.specs.Int.{FitsUnsignedBits}
use Rattle.values.specs.Bounds.{GivesQuarters}
use Rattle.values.specs.Values.{quarters_from}

-- a figure in a range that 16 bits hold is not refused
pub fits_u16 : {E : Type 0} (x : ℤ) (high : ℕ) → pos 0 ≤ℤ x → x ≤ℤ pos high → high < 65536 → E → ¬ (¬ (FitsUnsignedBits 16 x))
fits_u16 (pos n) high l h b e refused = refused (omega (arith, ints, h, b))
fits_u16 (negsuc n) high l h b e refused = absurd (omega (arith, ints, l))

-- where a conversion gives the value of a function, the four values are those of the function
pub quarters_given : {X E : Type 0} (gives : ℤ → Result X E → Type 0) (value : ℤ → X) → ((x : ℤ) (v : X) → gives x (Ok v) → v ≡ value x) → (xs : List ℤ) (i : ℕ) (ys : List X) → GivesQuarters gives xs i ys → ys ≡ quarters_from value xs i
quarters_given gives value is xs i [] e = absurd e
quarters_given gives value is xs i (a ∷ []) e = absurd e
quarters_given gives value is xs i (a ∷ b ∷ []) e = absurd e
quarters_given gives value is xs i (a ∷ b ∷ c ∷ []) e = absurd e
quarters_given gives value is xs i (a ∷ b ∷ c ∷ d ∷ []) e =
    let p = is _ a e.0 in let q = is _ b e.1 in let r = is _ c e.2 in let s = is _ d e.3 in cc
quarters_given gives value is xs i (a ∷ b ∷ c ∷ d ∷ f ∷ ys) e = absurd e
