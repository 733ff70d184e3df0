-- A field of a record: which figures it may hold, and the bits that they stand in.
use Rattle.std.specs.Prelude.{ℕ, Bool, true, false, ◌&&◌, ◌||◌, List, ℤ, pos, ◌+ℤ◌, ◌-ℤ◌, is_some, Some, None, Option, int_le, int_lt, slice_index_or}
use Rattle.std.proofs.Common.{to_z, of_z}
use Rattle.std.specs.Int.{w64}
pub use Rattle.limits.specs.Limits.{is_quantity, least_quantity}
use Rattle.names.specs.Names.{direction_at, has_bids, list_at, list_size, total_at}
use Rattle.layout.specs.declared.field.Field.{Field}
use Rattle.layout.specs.declared.field.Rule.{Rule}
use Rattle.layout.specs.declared.field.Rule.TheVariants.{Within, NamesDirection, NamesTotal, NamesList, NamesBidList, NumberIn, NumberInNamedList, OtherThanFromZone, OrdinaryQuantity, Quantity}
use Rattle.names.specs.declared.lists.ListName.{ListName}

-- the least quantity other than 0, in MW, of an ordinary bid of a zone. Here it unfolds, so that what a record holds can be
-- computed; the function of `limits` is proved to give both this number and the one that no proof of the kinds looks into.
abbrev pub least_ordinary : ℤ → ℤ
least_ordinary zone = pos 10

-- the figure at a place of a record's figures, which are counted from 0 behind the kind
abbrev pub at : List ℤ → ℕ → ℤ
at xs i = slice_index_or xs i (pos 0)

abbrev pub of_bids : Option ListName → Bool
of_bids (Some list) = has_bids list
of_bids None = false

abbrev pub names_bid_list : ℤ → Bool
names_bid_list x = of_bids (list_at x)

-- whether x is a number of a list, from 0
abbrev pub number_in : ListName → ℤ → Bool
number_in list x = int_le (pos 0) x && int_lt x (pos (list_size list))

abbrev pub number_in_some : Option ListName → ℤ → Bool
number_in_some (Some list) x = number_in list x
number_in_some None x = false

-- whether x is a number of the list that y names
abbrev pub number_in_named : ℤ → ℤ → Bool
number_in_named y x = number_in_some (list_at y) x

-- whether x keeps a rule in a record of figures xs
abbrev pub keeps : Rule → List ℤ → ℤ → Bool
keeps Within xs x = true
keeps NamesDirection xs x = is_some (direction_at x)
keeps NamesTotal xs x = is_some (total_at x)
keeps NamesList xs x = is_some (list_at x)
keeps NamesBidList xs x = names_bid_list x
keeps (NumberIn list) xs x = number_in list x
keeps NumberInNamedList xs x = number_in_named (at xs 0) x
keeps OtherThanFromZone xs x = int_lt x (at xs 1) || int_lt (at xs 1) x
keeps OrdinaryQuantity xs x = is_quantity (least_ordinary (at xs 1)) x
keeps Quantity xs x = is_quantity least_quantity x

-- whether a field may hold x in a record of figures xs
abbrev pub admits : Field → List ℤ → ℤ → Bool
admits f xs x = int_le f.low x && int_le x f.high && keeps f.rule xs x

-- the bits that a figure is stored as: with the offset added, in two's complement
abbrev pub stored_as : Field → ℤ → ℕ
stored_as f x = of_z w64 (x +ℤ f.offset)

-- the figure that stored bits stand for
abbrev pub figure_of : Field → ℕ → ℤ
figure_of f v = to_z w64 v -ℤ f.offset
