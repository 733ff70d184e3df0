-- The table of fields: every width, offset and range of the record format, and the fields of each kind.
use Rattle.std.specs.Prelude.{ℕ, ◌-◌, List, [], ◌∷◌, ℤ, pos, negsuc, neg_ℤ, Option}
use Rattle.limits.specs.Limits.{corridor_limit, half_euros_limit, need_limit, price_limit, quantity_limit, zones}
use Rattle.names.specs.Numbered.{case_at}
use Rattle.layout.specs.declared.field.Field.{Field}
use Rattle.layout.specs.declared.field.Rule.{Rule}
use Rattle.layout.specs.declared.field.Rule.TheVariants.{Within, NamesDirection, NamesTotal, NamesList, NamesBidList, NumberIn, NumberInNamedList, OtherThanFromZone, OrdinaryQuantity, Quantity}
use Rattle.layout.specs.declared.kind.Kind.{Kind}
use Rattle.layout.specs.declared.kind.Kind.TheVariants as k
use Rattle.names.specs.declared.lists.ListName.TheVariants as list

-- a field of so many bits for figures from 0 up to the last, under a rule; where the rule names the figures, the last is what the bits can hold
abbrev pub up_to : ℕ → ℕ → Rule → Field
up_to bits last r = record { width = bits; offset = pos 0; low = pos 0; high = pos last; rule = r }

-- a field of so many bits for figures from minus the last up to the last, stored with an offset
abbrev pub around : ℕ → ℕ → ℕ → Field
around bits shift last = record { width = bits; offset = pos shift; low = neg_ℤ (pos last); high = pos last; rule = Within }

abbrev pub zone_field : Field
zone_field = up_to 4 (zones - 1) Within

abbrev pub to_zone_field : Field
to_zone_field = up_to 4 (zones - 1) OtherThanFromZone

-- cents per MWh
abbrev pub price_field : Field
price_field = around 21 1000000 price_limit

abbrev pub need_field : Field
need_field = around 16 20000 need_limit

abbrev pub ordinary_number_field : Field
ordinary_number_field = up_to 10 1023 (NumberIn list.Ordinary)

abbrev pub whole_number_field : Field
whole_number_field = up_to 10 1023 (NumberIn list.Whole)

abbrev pub corridor_number_field : Field
corridor_number_field = up_to 5 31 (NumberIn list.Corridors)

abbrev pub direction_field : Field
direction_field = up_to 1 1 NamesDirection

-- a bid's price, a multiple of half a euro per MWh
abbrev pub half_euros_field : Field
half_euros_field = around 16 20000 half_euros_limit

abbrev pub station_group_field : Field
station_group_field = up_to 12 4095 Within

abbrev pub ordinary_quantity_field : Field
ordinary_quantity_field = up_to 14 quantity_limit OrdinaryQuantity

abbrev pub quantity_field : Field
quantity_field = up_to 14 quantity_limit Quantity

abbrev pub limit_field : Field
limit_field = up_to 12 corridor_limit Within

abbrev pub list_field : Field
list_field = up_to 4 15 NamesList

abbrev pub bid_list_field : Field
bid_list_field = up_to 4 15 NamesBidList

abbrev pub listed_number_field : Field
listed_number_field = up_to 10 1023 NumberInNamedList

abbrev pub megawatts_field : Field
megawatts_field = around 15 10000 quantity_limit

-- money units, a quarter of a cent each
abbrev pub payment_field : Field
payment_field = around 37 40000000000 39996000000

abbrev pub deduction_field : Field
deduction_field = up_to 37 79992000000 Within

abbrev pub which_total_field : Field
which_total_field = up_to 4 15 NamesTotal

-- money units, any number of 64 bits
abbrev pub total_value_field : Field
total_value_field = record { width = 64; offset = pos 0; low = negsuc 9223372036854775807; high = pos 9223372036854775807; rule = Within }

abbrev pub hour_field : Field
hour_field = up_to 32 4294967295 Within

-- cents per MWh
abbrev pub rate_field : Field
rate_field = up_to 20 1000000 Within

abbrev pub count_field : Field
count_field = up_to 12 4095 Within

abbrev pub proposal_count_field : Field
proposal_count_field = up_to 12 512 Within

-- a field for each quarter, and what stands behind them
abbrev pub quarters : Field → List Field → List Field
quarters f rest = f ∷ f ∷ f ∷ f ∷ rest

-- the fields behind the kind, in their order
abbrev pub fields_of : Kind → List Field
fields_of k.Zone = zone_field ∷ price_field ∷ quarters need_field []
fields_of k.Ordinary = ordinary_number_field ∷ zone_field ∷ direction_field ∷ half_euros_field ∷ station_group_field ∷ quarters ordinary_quantity_field []
fields_of k.Whole = whole_number_field ∷ zone_field ∷ direction_field ∷ half_euros_field ∷ station_group_field ∷ quarters quantity_field []
fields_of k.Corridor = corridor_number_field ∷ zone_field ∷ to_zone_field ∷ quarters limit_field (quarters limit_field [])
fields_of k.Withdrawal = bid_list_field ∷ listed_number_field ∷ []
fields_of k.Prices = zone_field ∷ quarters price_field []
fields_of k.Schedule = list_field ∷ listed_number_field ∷ quarters megawatts_field []
fields_of k.Meter = bid_list_field ∷ listed_number_field ∷ quarters megawatts_field []
fields_of k.Line = bid_list_field ∷ listed_number_field ∷ payment_field ∷ deduction_field ∷ []
fields_of k.Total = which_total_field ∷ total_value_field ∷ []
fields_of k.Header = hour_field ∷ rate_field ∷ count_field ∷ proposal_count_field ∷ count_field ∷ []

abbrev pub kind_number : Kind → ℕ
kind_number k.Zone = 1
kind_number k.Ordinary = 2
kind_number k.Whole = 3
kind_number k.Corridor = 4
kind_number k.Withdrawal = 5
kind_number k.Prices = 6
kind_number k.Schedule = 7
kind_number k.Meter = 8
kind_number k.Line = 9
kind_number k.Total = 10
kind_number k.Header = 11

abbrev pub kinds : List Kind
kinds = k.Zone ∷ k.Ordinary ∷ k.Whole ∷ k.Corridor ∷ k.Withdrawal ∷ k.Prices ∷ k.Schedule ∷ k.Meter ∷ k.Line ∷ k.Total ∷ k.Header ∷ []

abbrev pub kind_at : ℤ → Option Kind
kind_at figure = case_at kind_number kinds figure
