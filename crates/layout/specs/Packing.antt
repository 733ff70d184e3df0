-- A kind and its figures as a word of 128 bits: the kind in the highest four, then each field below the one before it, then zeros.
use Rattle.std.specs.Prelude.{◌≡◌, ℕ, ◌+◌, ◌-◌, ◌*◌, ◌/◌, ◌%◌, ◌^◌, true, false, cond, List, [], ◌∷◌, ◌++◌, length, replicate, ℤ, pos, ◌≤ℤ◌, Some, None, Ok, Err, Option, Result}
use Rattle.layout.specs.Fields.{admits, at, figure_of, keeps, stored_as}
use Rattle.layout.specs.Layout.{fields_of, kind_number}
use Rattle.layout.specs.declared.field.Field.{Field}
use Rattle.layout.specs.declared.kind.Kind.{Kind}
use Rattle.layout.specs.declared.packing.OutOfRange.{OutOfRange}

-- how many bits some fields take
abbrev pub bits_of : List Field → ℕ
bits_of [] = 0
bits_of (f ∷ fs) = f.width + bits_of fs

-- each figure from place i on is one that its field may hold
abbrev pub InRange : List Field → ℕ → List ℤ → Type 0
InRange [] i xs = Unit {0}
InRange (f ∷ fs) i xs = (f.low ≤ℤ at xs i) × (at xs i ≤ℤ f.high) × (keeps f.rule xs (at xs i) ≡ true) × InRange fs (i + 1) xs

-- the number of the first field that may not hold its figure; the figure at place i is that of field i + 2
abbrev pub first_out_of_range : List Field → ℕ → List ℤ → Option ℕ
first_out_of_range [] i xs = None
first_out_of_range (f ∷ fs) i xs = cond (admits f xs (at xs i)) (first_out_of_range fs (i + 1) xs) (Some (i + 2))

-- the field of that number may not hold its figure, and each field before it may
pub record FirstOut (fs : List Field) (i : ℕ) (xs : List ℤ) (number : ℕ) : Type 0 where
  pub before : List Field
  pub here : Field
  pub after : List Field
  pub split : fs ≡ before ++ here ∷ after
  pub counted : number ≡ i + length before + 2
  pub kept : InRange before i xs
  pub broken : admits here xs (at xs (i + length before)) ≡ false

-- none where every figure is in range, else the first field whose figure is not
abbrev pub First : List Field → ℕ → List ℤ → Option ℕ → Type 0
First fs i xs None = InRange fs i xs
First fs i xs (Some number) = FirstOut fs i xs number

-- the figures from place i on in the lowest `left` bits, each field below the one before it
abbrev pub packed : List Field → ℕ → ℕ → List ℤ → ℕ
packed [] left i xs = 0
packed (f ∷ fs) left i xs = stored_as f (at xs i) * 2 ^ (left - f.width) + packed fs (left - f.width) (i + 1) xs

-- the figures that the lowest `left` bits of a word hold
abbrev pub figures_in : List Field → ℕ → ℕ → List ℤ
figures_in [] left word = []
figures_in (f ∷ fs) left word = figure_of f (word / 2 ^ (left - f.width) % 2 ^ f.width) ∷ figures_in fs (left - f.width) word

-- how many zeros stand behind the last field
abbrev pub padding : Kind → ℕ
padding kind = 124 - bits_of (fields_of kind)

-- the word of a kind and its figures
abbrev pub word_of : Kind → List ℤ → ℕ
word_of kind xs = kind_number kind * 2 ^ 124 + packed (fields_of kind) 124 0 xs

-- what is there where no field is out of range, else that field
abbrev pub or_field : {X : Type 0} → Option ℕ → X → Result X OutOfRange
or_field (Some field) x = Err (record { field = field })
or_field None x = Ok x

-- the word of a kind and its figures, or the first field whose figure is out of range
abbrev pub word_or_field : Kind → List ℤ → Result ℕ OutOfRange
word_or_field kind xs = or_field (first_out_of_range (fields_of kind) 0 xs) (word_of kind xs)

-- figures with zeros behind them, eleven in all
abbrev pub filled : List ℤ → List ℤ
filled xs = xs ++ replicate (11 - length xs) (pos 0)
