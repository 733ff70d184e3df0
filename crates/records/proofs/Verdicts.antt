-- What reading and writing answer, from what the layout found.
use Rattle.std.proofs.Common.{◌≡◌, ℕ, ◌+◌, ◌*◌, ◌/◌, ◌%◌, ◌^◌, ◌<◌, eqb, List, ℤ, Some, None, Ok, Err, Option, sym, refl, ap, ◌∙◌, arith, w64, to_z}
use Rattle.std.proofs.lemmas.Int.{to_z_pos}
use Rattle.layout.specs.Layout.{fields_of, kind_at, kind_number}
use Rattle.layout.specs.Packing.{figures_in, filled, first_out_of_range, or_field, padding, word_of, word_or_field}
use Rattle.layout.specs.declared.kind.Kind.{Kind}
use Rattle.layout.specs.declared.packing.OutOfRange.{OutOfRange}
use Rattle.records.specs.Encoding.{word_as}
use Rattle.records.specs.Reading.{if_in_range, if_known, if_padded, read_word}
use Rattle.values.specs.Values.{figures_of, kind_of, record_of, record_or_field}
use Rattle.records.specs.Writing.{checked, checked_as, or_out_of_range}
use Rattle.values.specs.declared.value.Record.{Record}
use Rattle.values.proofs.Figures.{record_filled}
use Rattle.values.proofs.Filled.{at-filled, packed_same, range_same}

-- the kind that the code finds in the highest four bits
pub known : (p word : ℕ) (o : Option Kind) → word < 2 ^ 128 → o ≡ kind_at (to_z w64 (word / 2 ^ 124)) → read_word p word ≡ if_known p word o
known p word o l e = ap (if_known p word) (sym (e ∙ ap kind_at (to_z_pos w64 (word / 2 ^ 124) (omega arith))))

pub range_filled : (kind : Kind) (xs : List ℤ) → first_out_of_range (fields_of kind) 0 (filled xs) ≡ first_out_of_range (fields_of kind) 0 xs
range_filled kind xs = range_same (filled xs) xs (at-filled xs) (fields_of kind) 0

ok_parts : {X : Type 0} (o : Option ℕ) (x y : X) → Ok y ≡ or_field o x → (o ≡ None) × (y ≡ x)
ok_parts None x y e = (refl, cc)
ok_parts (Some field) x y e = let z : ◌≡◌ {A = ℕ} 0 1 = cc in absurd (omega arith)

err_parts : {X : Type 0} (o : Option ℕ) (x : X) (out : OutOfRange) → Err out ≡ or_field o x → o ≡ Some out.field
err_parts None x out e = let z : ◌≡◌ {A = ℕ} 0 1 = cc in absurd (omega arith)
err_parts (Some f) x out e = let same : record { field = f } ≡ out = cc in ap (λ (r : OutOfRange). Some r.field) same

-- what the figures of a word of a known kind come to
module _ (p word : ℕ) (kind : Kind) (xs : List ℤ) (fits : word < 2 ^ 128) (named : Some kind ≡ kind_at (to_z w64 (word / 2 ^ 124))) (held : xs ≡ filled (figures_in (fields_of kind) 124 word)) where
  ranged : (o : Option ℕ) → first_out_of_range (fields_of kind) 0 xs ≡ o → read_word p word ≡ if_in_range p kind word o
  ranged o e =
      known p word (Some kind) fits named
      ∙ ap (if_in_range p kind word) (sym (range_filled kind (figures_in (fields_of kind) 124 word)) ∙ ap (first_out_of_range (fields_of kind) 0) (sym held) ∙ e)

  pub read_out_of_range : (out : OutOfRange) → Err out ≡ record_or_field kind xs → read_word p word ≡ if_in_range p kind word (Some out.field)
  read_out_of_range out e = ranged (Some out.field) (err_parts (first_out_of_range (fields_of kind) 0 xs) (record_of kind xs) out e)

  pub read_in_range : (value : Record) → Ok value ≡ record_or_field kind xs → read_word p word ≡ if_padded p value (eqb (word % 2 ^ padding kind) 0)
  read_in_range value e =
      let q = ok_parts (first_out_of_range (fields_of kind) 0 xs) (record_of kind xs) value e in
      ranged None q.0 ∙ ap (λ v. if_padded p v (eqb (word % 2 ^ padding kind) 0)) (sym (q.1 ∙ ap (record_of kind) held ∙ record_filled kind word))

-- zeros behind the figures change no word
same_word : (kind : Kind) (ys : List ℤ) → word_of kind (filled ys) ≡ word_of kind ys
same_word kind ys = ap (λ n. kind_number kind * 2 ^ 124 + n) (packed_same (filled ys) ys (at-filled ys) (fields_of kind) 124 0)

-- a word of the figures is the value's word, and the check passes; a field out of range is what the check refuses
pub in_range_lem : (value : Record) (kind : Kind) (xs : List ℤ) (word : ℕ) → Some kind ≡ kind_of value → xs ≡ filled (figures_of value) → Ok word ≡ word_or_field kind xs → (checked value ≡ Ok tt) × (word ≡ word_as (kind_of value) (figures_of value))
in_range_lem value kind xs word ek ex e =
    let p = ok_parts (first_out_of_range (fields_of kind) 0 xs) (word_of kind xs) word e in
    let f : first_out_of_range (fields_of kind) 0 (figures_of value) ≡ None = sym (range_filled kind (figures_of value)) ∙ ap (first_out_of_range (fields_of kind) 0) (sym ex) ∙ p.0 in
    (ap (checked_as value) (sym ek) ∙ ap or_out_of_range f, p.1 ∙ ap (word_of kind) ex ∙ same_word kind (figures_of value) ∙ ap (λ o. word_as o (figures_of value)) ek)

pub out_of_range : (value : Record) (kind : Kind) (xs : List ℤ) (out : OutOfRange) → Some kind ≡ kind_of value → xs ≡ filled (figures_of value) → Err out ≡ word_or_field kind xs → checked value ≡ or_out_of_range (Some out.field)
out_of_range value kind xs out ek ex e =
    let p = err_parts (first_out_of_range (fields_of kind) 0 xs) (word_of kind xs) out e in
    ap (checked_as value) (sym ek) ∙ ap or_out_of_range (sym (range_filled kind (figures_of value)) ∙ ap (first_out_of_range (fields_of kind) 0) (sym ex) ∙ p)
