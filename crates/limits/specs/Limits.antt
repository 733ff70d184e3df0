-- The numbers of the market that several layers share, each once.
use Rattle.std.specs.Prelude.{Bool, ◌&&◌, ◌||◌, ℕ, ℤ, pos, int_le}

-- bidding zones, and quarters of the hour
abbrev pub zones : ℕ
zones = 12

abbrev pub quarters : ℕ
quarters = 4

-- a price lies from minus this to this, in cents per MWh
abbrev pub price_limit : ℕ
price_limit = 1000000

-- the price of a bid, in half euros per MWh, and the cents in half a euro
abbrev pub half_euros_limit : ℕ
half_euros_limit = 20000

abbrev pub cents_in_half_euro : ℕ
cents_in_half_euro = 50

-- the need of a cell, in MW
abbrev pub need_limit : ℕ
need_limit = 20000

-- a quantity of a bid, and a volume of a schedule or a meter, in MW
abbrev pub quantity_limit : ℕ
quantity_limit = 9999

-- a participant's effect in a cell, in MW
abbrev pub effect_limit : ℕ
effect_limit = 9999

-- a limit of a corridor, in MW
abbrev pub corridor_limit : ℕ
corridor_limit = 4095

-- the cost of a schedule, in money units
abbrev pub cost_limit : ℕ
cost_limit = 40000000000

-- participants of a list that is put to the clearing check
abbrev pub list_limit : ℕ
list_limit = 256

-- the least quantity other than 0, in MW: of an ordinary bid of a zone, which no proof looks into, and of any other bid
unfoldable pub least_ordinary : ℤ → ℤ
least_ordinary zone = pos 10

abbrev pub least_quantity : ℤ
least_quantity = pos 10

-- a quantity is 0 or at least the least one
abbrev pub is_quantity : ℤ → ℤ → Bool
is_quantity least x = int_le (pos 0) x && int_le x (pos 0) || int_le least x
