-- Zeros behind the figures are not looked at.
use Rattle.std.proofs.Common.{◌≡◌, ℕ, ◌+◌, ◌-◌, ◌*◌, ◌^◌, cond, true, ◌||◌, List, [], ◌∷◌, length, get_or, replicate, ℤ, pos, is_some, Some, None, Option, sym, refl, ap, ◌∙◌, inl, inr, arith}
use lib.Signed.{lt_z}
use Rattle.std.proofs.lemmas.List.{get_or_append_left, get_or-append_right, get_or-replicate, get_or_past, length-replicate}
use Rattle.std.proofs.lemmas.Bool.{cases_lt}
use Rattle.layout.specs.Fields.{of_bids, admits, at, is_quantity, keeps, least_ordinary, number_in_named, stored_as}
use Rattle.layout.specs.Packing.{InRange, first_out_of_range, packed, filled}
use Rattle.layout.specs.declared.field.Field.{Field}
use Rattle.layout.specs.declared.field.Rule.{Rule}
use Rattle.layout.specs.declared.field.Rule.TheVariants.{Within, NamesDirection, NamesTotal, NamesList, NamesBidList, NumberIn, NumberInNamedList, OtherThanFromZone, OrdinaryQuantity, Quantity}
use Rattle.names.specs.Names.{list_at}
use Rattle.names.specs.declared.lists.ListName.{ListName}
use Rattle.values.specs.Bounds.{Bounded, Named}

zeros : (n i : ℕ) → get_or (replicate n (pos 0)) i (pos 0) ≡ pos 0
zeros n i =
    elim (cases_lt i n) [
      | inl l ↦ get_or-replicate n i (pos 0) (pos 0) l
      | inr l ↦ get_or_past (replicate n (pos 0)) i (pos 0) (omega (arith, length-replicate n (pos 0)))
    ]

pub at-filled : (xs : List ℤ) (i : ℕ) → at (filled xs) i ≡ at xs i
at-filled xs i =
    elim (cases_lt i (length xs)) [
      | inl l ↦ get_or_append_left xs (replicate (11 - length xs) (pos 0)) (pos 0) i l
      | inr l ↦ get_or-append_right xs (replicate (11 - length xs) (pos 0)) (length xs) i (pos 0) refl l ∙ zeros (11 - length xs) (i - length xs) ∙ sym (get_or_past xs i (pos 0) l)
    ]

-- lists that have the same figures at each place
module _ (xs ys : List ℤ) (same : (i : ℕ) → at xs i ≡ at ys i) where
  keeps_same : (r : Rule) (x : ℤ) → keeps r xs x ≡ keeps r ys x
  keeps_same Within x = refl
  keeps_same NamesDirection x = refl
  keeps_same NamesTotal x = refl
  keeps_same NamesList x = refl
  keeps_same NamesBidList x = refl
  keeps_same (NumberIn list) x = refl
  keeps_same NumberInNamedList x = ap (λ y. number_in_named y x) (same 0)
  keeps_same OtherThanFromZone x = ap (λ y. lt_z x y || lt_z y x) (same 1)
  keeps_same OrdinaryQuantity x = ap (λ y. is_quantity (least_ordinary y) x) (same 1)
  keeps_same Quantity x = refl

  admits_same : (f : Field) (i : ℕ) → admits f xs (at xs i) ≡ admits f ys (at ys i)
  admits_same f i =
      let e = keeps_same f.rule (at ys i) in
      let s = same i in
      ap (admits f xs) s ∙ cc

  pub range_same : (fs : List Field) (i : ℕ) → first_out_of_range fs i xs ≡ first_out_of_range fs i ys
  range_same [] i = refl
  range_same (f ∷ fs) i =
      ap (λ b. cond b (first_out_of_range fs (i + 1) xs) (Some (i + 2))) (admits_same f i)
      ∙ ap (λ o. cond (admits f ys (at ys i)) o (Some (i + 2))) (range_same fs (i + 1))

  pub packed_same : (fs : List Field) (left i : ℕ) → packed fs left i xs ≡ packed fs left i ys
  packed_same [] left i = refl
  packed_same (f ∷ fs) left i =
      ap (λ x. stored_as f x * 2 ^ (left - f.width) + packed fs (left - f.width) (i + 1) xs) (same i)
      ∙ ap (λ n. stored_as f (at ys i) * 2 ^ (left - f.width) + n) (packed_same fs (left - f.width) (i + 1))

-- a list of bids is a list
bids_named : (o : Option ListName) → of_bids o ≡ true → is_some o ≡ true
bids_named (Some l) h = refl
bids_named None h = h

-- a figure that keeps its field's rule is a name's number where the rule asks for a name
named : (r : Rule) (xs : List ℤ) (x : ℤ) → keeps r xs x ≡ true → Named r x
named Within xs x h = tt
named NamesDirection xs x h = h
named NamesTotal xs x h = h
named NamesList xs x h = h
named NamesBidList xs x h = bids_named (list_at x) h
named (NumberIn list) xs x h = tt
named NumberInNamedList xs x h = tt
named OtherThanFromZone xs x h = tt
named OrdinaryQuantity xs x h = tt
named Quantity xs x h = tt

pub bounded : (fs : List Field) (i : ℕ) (xs : List ℤ) → InRange fs i xs → Bounded fs i xs
bounded [] i xs s = tt
bounded (f ∷ fs) i xs s = (s.0, s.1, named f.rule xs (at xs i) s.2, bounded fs (i + 1) xs s.3)
