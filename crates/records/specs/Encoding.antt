-- What it means that bytes encode a value, and the bytes that do.
use Rattle.std.specs.Prelude.{◌≡◌, ℕ, List, length, ℤ, Some, None, Option}
use Rattle.std.specs.Int.{to_be_bytes, w128}
use Rattle.std.specs.Int.Digits.{number_from_digits, AllBelowBase}
use Rattle.layout.specs.Layout.{fields_of}
use Rattle.layout.specs.Packing.{InRange, word_of}
use Rattle.layout.specs.declared.kind.Kind.{Kind}
use Rattle.values.specs.Values.{Shaped, figures_of, kind_of}
use Rattle.values.specs.declared.value.Record.{Record}

-- sixteen bytes, the highest first, hold a value: its kind, its figures, each in its range, and zeros
pub record Encodes (value : Record) (bs : List ℕ) : Type 0 where
  pub size : length bs ≡ 16
  pub bytes : AllBelowBase 256 bs
  pub kind : Kind
  pub named : kind_of value ≡ Some kind
  pub range : InRange (fields_of kind) 0 (figures_of value)
  pub shape : Shaped value
  pub word : number_from_digits 256 bs ≡ word_of kind (figures_of value)

-- the word of a value; the blank one is of kind 0 and has no figures
abbrev pub word_as : Option Kind → List ℤ → ℕ
word_as (Some kind) xs = word_of kind xs
word_as None xs = 0

-- the bytes that hold a value: its word, the highest byte first
unfoldable pub encoding : Record → List ℕ
encoding value = to_be_bytes w128 (word_as (kind_of value) (figures_of value))
