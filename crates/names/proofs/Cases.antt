-- A figure names a case exactly where it is that case's number.
use Rattle.std.proofs.Common.{◌≡◌, ℕ, eqb, List, [], ◌∷◌, ℤ, pos, negsuc, Some, Option, sym, ap, ◌∙◌, inl, inr, arith}
use Rattle.std.proofs.lemmas.Bool.{cases_Bool, cond-true, cond-false, eqb-true}
use Rattle.names.specs.Numbered.{Exactly, case_at, numbered}

-- a case that is found by a number has that number
numbered_is : {X : Type 0} (number : X → ℕ) (n : ℕ) (cases : List X) (x : X) → numbered number n cases ≡ Some x → number x ≡ n
numbered_is number n [] x e = let z : ◌≡◌ {A = ℕ} 0 1 = cc in absurd (omega arith)
numbered_is number n (y ∷ ys) x e =
    elim (cases_Bool (eqb (number y) n)) [
      | inl h ↦ (let s : Some y ≡ Some x = sym (cond-true _ _ _ h) ∙ e in let f : y ≡ x = cc in ap number (sym f) ∙ eqb-true _ _ h)
      | inr h ↦ numbered_is number n ys x (sym (cond-false _ _ _ h) ∙ e)
    ]

pub case_is : {X : Type 0} (number : X → ℕ) (cases : List X) (z : ℤ) (x : X) → case_at number cases z ≡ Some x → pos (number x) ≡ z
case_is number cases (pos n) x e = ap pos (numbered_is number n cases x e)
case_is number cases (negsuc n) x e = let z : ◌≡◌ {A = ℕ} 0 1 = cc in absurd (omega arith)

-- where each case is found by its number, an answer is exact
pub exact : {X : Type 0} (number : X → ℕ) (cases : List X) (figure : ℤ) (answer : Option X) → ((x : X) → case_at number cases (pos (number x)) ≡ Some x) → answer ≡ case_at number cases figure → Exactly number figure answer
exact number cases figure answer found e x = ((λ h. sym (case_is number cases figure x (sym e ∙ h))), (λ h. e ∙ ap (case_at number cases) h ∙ found x))
