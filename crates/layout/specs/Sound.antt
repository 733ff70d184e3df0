-- What the table owes the fields: each figure of a range has bits of its own, and the fields of a kind stand below its number.
use Rattle.std.specs.Prelude.{◌≡◌, ◌^◌, ◌≤◌, Bool, true, ◌&&◌, ◌||◌, List, [], ◌∷◌, length, pos, negsuc, ◌+ℤ◌, ◌==◌, int_le, int_lt, nat_le}
use Rattle.layout.specs.Packing.{bits_of}
use Rattle.layout.specs.declared.field.Field.{Field}

-- the range, moved by the offset, lies in the field's bits
abbrev pub fits_offset : Field → Bool
fits_offset f =
    nat_le f.width 63 && int_le (pos 0) f.offset && int_le (pos 0) (f.low +ℤ f.offset)
    && int_lt (f.high +ℤ f.offset) (pos (2 ^ f.width))

-- the field is as wide as a figure, and has no offset
abbrev pub fits_all_bits : Field → Bool
fits_all_bits f =
    (f.width == 64) && int_le (pos 0) f.offset && int_le f.offset (pos 0)
    && int_le (negsuc 9223372036854775807) f.low
    && int_le f.high (pos 9223372036854775807)

-- each figure of the range has bits of its own
abbrev pub proper : Field → Bool
proper f = fits_offset f || fits_all_bits f

abbrev pub all_proper : List Field → Bool
all_proper [] = true
all_proper (f ∷ fs) = proper f && all_proper fs

-- the fields of a kind: at most eleven, in the 124 bits below the kind
pub record Laid (fs : List Field) : Type 0 where
  pub few : length fs ≤ 11
  pub below : bits_of fs ≤ 124
  pub each : all_proper fs ≡ true
