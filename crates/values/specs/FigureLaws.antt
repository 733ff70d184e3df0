-- A value and its figures determine each other: first of one field, then the laws of `RecordValue`.
use Rattle.std.specs.Prelude.{◌≡◌, ℕ, zero, suc, ◌+◌, true, List, [], ◌∷◌, length, ℤ, pos, ◌≤ℤ◌, is_some, Some, None, Option, unwrap_or, unsigned_abs, slice_index_or, refl}
use Rattle.std.proofs.Common.{drop, ap, ap₂, sym, ◌∙◌, arith, drop-cons}
use Rattle.std.proofs.lemmas.Int.{ints}
use Rattle.std.proofs.lemmas.Bool.{false≢true}
use Rattle.std.proofs.lemmas.List.{drop_all}
use Rattle.layout.specs.Layout.{fields_of}
use Rattle.layout.specs.declared.kind.Kind.TheVariants as k
use Rattle.names.specs.Names.{direction_at, direction_number, directions, list_at, list_number, lists, total_at, total_number, totals}
use Rattle.names.specs.Numbered.{case_at}
use Rattle.names.specs.Cases.{direction_found, list_found, total_found}
use Rattle.names.proofs.Cases.{case_is}
use Rattle.names.specs.declared.lists.Direction.{Direction}
use Rattle.names.specs.declared.lists.Direction.TheVariants as direction
use Rattle.names.specs.declared.lists.ListName.{ListName}
use Rattle.names.specs.declared.lists.ListName.TheVariants as list
use Rattle.names.specs.declared.lists.TotalName.{TotalName}
use Rattle.names.specs.declared.lists.TotalName.TheVariants as total
use Rattle.values.specs.Bounds.{Bounded}
use Rattle.values.specs.Values.{Four, bid_figures, bid_of, corridor_figures, corridor_of, header_figures, header_of, line_figures, line_of, prices_figures, prices_of, total_figures, total_of, volumes_figures, volumes_of, withdrawal_figures, withdrawal_of, zone_figures, zone_of}
use Rattle.values.specs.declared.value.BidRecord.{BidRecord}
use Rattle.values.specs.declared.value.CorridorRecord.{CorridorRecord}
use Rattle.values.specs.declared.value.HeaderRecord.{HeaderRecord}
use Rattle.values.specs.declared.value.LineRecord.{LineRecord}
use Rattle.values.specs.declared.value.PricesRecord.{PricesRecord}
use Rattle.values.specs.declared.value.TotalRecord.{TotalRecord}
use Rattle.values.specs.declared.value.VolumesRecord.{VolumesRecord}
use Rattle.values.specs.declared.value.WithdrawalRecord.{WithdrawalRecord}
use Rattle.values.specs.declared.value.ZoneRecord.{ZoneRecord}

-- a number from 0 on and its figure
pub natural_back : (x : ℕ) → unsigned_abs (pos x) ≡ x
natural_back x = refl

pub natural : (x : ℤ) → pos 0 ≤ℤ x → pos (unsigned_abs x) ≡ x
natural x h = omega (arith, ints)

value_back : {X : Type 0} (number : X → ℕ) (z : ℤ) (o : Option X) (d : X) → ((x : X) → o ≡ Some x → pos (number x) ≡ z) → is_some o ≡ true → pos (number (unwrap_or o d)) ≡ z
value_back number z (Some x) d h s = h x refl
value_back number z None d h s = absurd (false≢true s)

-- a figure that names a case is the number of the case that is read
pub named_kept : {X : Type 0} (number : X → ℕ) (cases : List X) (d : X) (z : ℤ) → is_some (case_at number cases z) ≡ true → pos (number (unwrap_or (case_at number cases z) d)) ≡ z
named_kept number cases d z s = value_back number z (case_at number cases z) d (case_is number cases z) s

pub direction_back : (x : Direction) → unwrap_or (direction_at (pos (direction_number x))) direction.Up ≡ x
direction_back x = ap (λ o. unwrap_or o direction.Up) (direction_found x)

pub list_back : (x : ListName) → unwrap_or (list_at (pos (list_number x))) list.Ordinary ≡ x
list_back x = ap (λ o. unwrap_or o list.Ordinary) (list_found x)

pub total_name_back : (x : TotalName) → unwrap_or (total_at (pos (total_number x))) total.Cost ≡ x
total_name_back x = ap (λ o. unwrap_or o total.Cost) (total_found x)

-- a list, place by place
abbrev places : {X : Type 0} → X → ℕ → ℕ → List X → List X
places d i zero xs = []
places d i (suc k) xs = slice_index_or xs i d ∷ places d (suc i) k xs

places_from : {X : Type 0} (d : X) (k i : ℕ) (xs : List X) → length xs ≡ i + k → places d i k xs ≡ drop i xs
places_from d zero i xs l = sym (drop_all i xs (omega arith))
places_from d (suc k) i xs l = ap (λ ys. slice_index_or xs i d ∷ ys) (places_from d k (suc i) xs (omega arith)) ∙ sym (drop-cons xs i d (omega arith))

all_places : {X : Type 0} (d : X) (k : ℕ) (xs : List X) → length xs ≡ k → places d 0 k xs ≡ xs
all_places d k xs l = places_from d k 0 xs (omega arith)

-- from a value to its figures and back
pub zone_back : (x : ZoneRecord) → Four x.needs → zone_of (zone_figures x) ≡ x
zone_back x s = ap (λ q. record { zone = x.zone; day_ahead_price = x.day_ahead_price; needs = q }) (all_places (pos 0) 4 x.needs s)

pub bid_back : (x : BidRecord) → Four x.quantities → bid_of (bid_figures x) ≡ x
bid_back x s =
    ap₂ (λ d q. record { number = x.number; zone = x.zone; direction = d; half_euros = x.half_euros; station_group = x.station_group; quantities = q }) (direction_back x.direction) (all_places 0 4 x.quantities s)

pub corridor_back : (x : CorridorRecord) → (Four x.forward) × (Four x.backward) → corridor_of (corridor_figures x) ≡ x
corridor_back x s =
    ap₂ (λ f b. record { number = x.number; from_zone = x.from_zone; to_zone = x.to_zone; forward = f; backward = b }) (all_places 0 4 x.forward s.0) (all_places 0 4 x.backward s.1)

pub withdrawal_back : (x : WithdrawalRecord) → Unit {0} → withdrawal_of (withdrawal_figures x) ≡ x
withdrawal_back x s = ap (λ l. record { list = l; number = x.number }) (list_back x.list)

pub prices_back : (x : PricesRecord) → Four x.prices → prices_of (prices_figures x) ≡ x
prices_back x s = ap (λ q. record { zone = x.zone; prices = q }) (all_places (pos 0) 4 x.prices s)

pub volumes_back : (x : VolumesRecord) → Four x.megawatts → volumes_of (volumes_figures x) ≡ x
volumes_back x s = ap₂ (λ l q. record { list = l; number = x.number; megawatts = q }) (list_back x.list) (all_places (pos 0) 4 x.megawatts s)

pub line_back : (x : LineRecord) → Unit {0} → line_of (line_figures x) ≡ x
line_back x s = ap (λ l. record { list = l; number = x.number; payment = x.payment; deduction = x.deduction }) (list_back x.list)

pub total_back : (x : TotalRecord) → Unit {0} → total_of (total_figures x) ≡ x
total_back x s = ap (λ t. record { which = t; value = x.value }) (total_name_back x.which)

pub header_back : (x : HeaderRecord) → Unit {0} → header_of (header_figures x) ≡ x
header_back x s = refl

-- from figures to the value and back, where what is read as a number from 0 on is none below 0, and a name's figure is a name's number
zone_figures_lem : (a b c d e f : ℤ) → pos 0 ≤ℤ a → zone_figures (zone_of (a ∷ b ∷ c ∷ d ∷ e ∷ f ∷ [])) ≡ a ∷ b ∷ c ∷ d ∷ e ∷ f ∷ []
zone_figures_lem a b c d e f ha = let p = natural a ha in cc

bid_figures_lem : (a b c d e f g h i : ℤ) → pos 0 ≤ℤ a → pos 0 ≤ℤ b → is_some (direction_at c) ≡ true → pos 0 ≤ℤ e → pos 0 ≤ℤ f → pos 0 ≤ℤ g → pos 0 ≤ℤ h → pos 0 ≤ℤ i → bid_figures (bid_of (a ∷ b ∷ c ∷ d ∷ e ∷ f ∷ g ∷ h ∷ i ∷ [])) ≡ a ∷ b ∷ c ∷ d ∷ e ∷ f ∷ g ∷ h ∷ i ∷ []
bid_figures_lem a b c d e f g h i ha hb hc he hf hg hh hi =
    let pa = natural a ha in
    let pb = natural b hb in
    let pc = named_kept direction_number directions direction.Up c hc in
    let pe = natural e he in
    let pf = natural f hf in
    let pg = natural g hg in
    let ph = natural h hh in
    let pi = natural i hi in
    cc

corridor_figures_lem : (a b c d e f g h i j l : ℤ) → pos 0 ≤ℤ a → pos 0 ≤ℤ b → pos 0 ≤ℤ c → pos 0 ≤ℤ d → pos 0 ≤ℤ e → pos 0 ≤ℤ f → pos 0 ≤ℤ g → pos 0 ≤ℤ h → pos 0 ≤ℤ i → pos 0 ≤ℤ j → pos 0 ≤ℤ l → corridor_figures (corridor_of (a ∷ b ∷ c ∷ d ∷ e ∷ f ∷ g ∷ h ∷ i ∷ j ∷ l ∷ [])) ≡ a ∷ b ∷ c ∷ d ∷ e ∷ f ∷ g ∷ h ∷ i ∷ j ∷ l ∷ []
corridor_figures_lem a b c d e f g h i j l ha hb hc hd he hf hg hh hi hj hl =
    let pa = natural a ha in
    let pb = natural b hb in
    let pc = natural c hc in
    let pd = natural d hd in
    let pe = natural e he in
    let pf = natural f hf in
    let pg = natural g hg in
    let ph = natural h hh in
    let pi = natural i hi in
    let pj = natural j hj in
    let pl = natural l hl in
    cc

withdrawal_figures_lem : (a b : ℤ) → is_some (list_at a) ≡ true → pos 0 ≤ℤ b → withdrawal_figures (withdrawal_of (a ∷ b ∷ [])) ≡ a ∷ b ∷ []
withdrawal_figures_lem a b ha hb = let pa = named_kept list_number lists list.Ordinary a ha in let pb = natural b hb in cc

prices_figures_lem : (a b c d e : ℤ) → pos 0 ≤ℤ a → prices_figures (prices_of (a ∷ b ∷ c ∷ d ∷ e ∷ [])) ≡ a ∷ b ∷ c ∷ d ∷ e ∷ []
prices_figures_lem a b c d e ha = let p = natural a ha in cc

volumes_figures_lem : (a b c d e f : ℤ) → is_some (list_at a) ≡ true → pos 0 ≤ℤ b → volumes_figures (volumes_of (a ∷ b ∷ c ∷ d ∷ e ∷ f ∷ [])) ≡ a ∷ b ∷ c ∷ d ∷ e ∷ f ∷ []
volumes_figures_lem a b c d e f ha hb = let pa = named_kept list_number lists list.Ordinary a ha in let pb = natural b hb in cc

line_figures_lem : (a b c d : ℤ) → is_some (list_at a) ≡ true → pos 0 ≤ℤ b → line_figures (line_of (a ∷ b ∷ c ∷ d ∷ [])) ≡ a ∷ b ∷ c ∷ d ∷ []
line_figures_lem a b c d ha hb = let pa = named_kept list_number lists list.Ordinary a ha in let pb = natural b hb in cc

total_figures_lem : (a b : ℤ) → is_some (total_at a) ≡ true → total_figures (total_of (a ∷ b ∷ [])) ≡ a ∷ b ∷ []
total_figures_lem a b ha = let pa = named_kept total_number totals total.Cost a ha in cc

header_figures_lem : (a b c d e : ℤ) → pos 0 ≤ℤ a → pos 0 ≤ℤ b → pos 0 ≤ℤ c → pos 0 ≤ℤ d → pos 0 ≤ℤ e → header_figures (header_of (a ∷ b ∷ c ∷ d ∷ e ∷ [])) ≡ a ∷ b ∷ c ∷ d ∷ e ∷ []
header_figures_lem a b c d e ha hb hc hd he =
    let pa = natural a ha in
    let pb = natural b hb in
    let pc = natural c hc in
    let pd = natural d hd in
    let pe = natural e he in
    cc

-- what gives back the figures of each place gives back the list
by_places : (again : List ℤ → List ℤ) (k : ℕ) (xs : List ℤ) → length xs ≡ k → again (places (pos 0) 0 k xs) ≡ places (pos 0) 0 k xs → again xs ≡ xs
by_places again k xs l e = let p = all_places (pos 0) k xs l in ap again (sym p) ∙ e ∙ p

-- from figures in their bounds to the value and back
module _ (xs : List ℤ) where
  pub zone_kept : Bounded (fields_of k.Zone) 0 xs → length xs ≡ 6 → zone_figures (zone_of xs) ≡ xs
  zone_kept s l = by_places (λ ys. zone_figures (zone_of ys)) 6 xs l (zone_figures_lem _ _ _ _ _ _ s.0)

  pub bid_kept : Bounded (fields_of k.Ordinary) 0 xs → length xs ≡ 9 → bid_figures (bid_of xs) ≡ xs
  bid_kept s l =
      by_places (λ ys. bid_figures (bid_of ys)) 9 xs l
      (bid_figures_lem _ _ _ _ _ _ _ _ _ s.0 s.3.0 s.3.3.2 s.3.3.3.3.0 s.3.3.3.3.3.0 s.3.3.3.3.3.3.0 s.3.3.3.3.3.3.3.0 s.3.3.3.3.3.3.3.3.0)

  pub corridor_kept : Bounded (fields_of k.Corridor) 0 xs → length xs ≡ 11 → corridor_figures (corridor_of xs) ≡ xs
  corridor_kept s l =
      by_places (λ ys. corridor_figures (corridor_of ys)) 11 xs l
      (corridor_figures_lem _ _ _ _ _ _ _ _ _ _ _ s.0 s.3.0 s.3.3.0 s.3.3.3.0 s.3.3.3.3.0 s.3.3.3.3.3.0 s.3.3.3.3.3.3.0 s.3.3.3.3.3.3.3.0 s.3.3.3.3.3.3.3.3.0 s.3.3.3.3.3.3.3.3.3.0 s.3.3.3.3.3.3.3.3.3.3.0)

  pub withdrawal_kept : Bounded (fields_of k.Withdrawal) 0 xs → length xs ≡ 2 → withdrawal_figures (withdrawal_of xs) ≡ xs
  withdrawal_kept s l = by_places (λ ys. withdrawal_figures (withdrawal_of ys)) 2 xs l (withdrawal_figures_lem _ _ s.2 s.3.0)

  pub prices_kept : Bounded (fields_of k.Prices) 0 xs → length xs ≡ 5 → prices_figures (prices_of xs) ≡ xs
  prices_kept s l = by_places (λ ys. prices_figures (prices_of ys)) 5 xs l (prices_figures_lem _ _ _ _ _ s.0)

  pub volumes_kept : Bounded (fields_of k.Schedule) 0 xs → length xs ≡ 6 → volumes_figures (volumes_of xs) ≡ xs
  volumes_kept s l = by_places (λ ys. volumes_figures (volumes_of ys)) 6 xs l (volumes_figures_lem _ _ _ _ _ _ s.2 s.3.0)

  pub line_kept : Bounded (fields_of k.Line) 0 xs → length xs ≡ 4 → line_figures (line_of xs) ≡ xs
  line_kept s l = by_places (λ ys. line_figures (line_of ys)) 4 xs l (line_figures_lem _ _ _ _ s.2 s.3.0)

  pub total_kept : Bounded (fields_of k.Total) 0 xs → length xs ≡ 2 → total_figures (total_of xs) ≡ xs
  total_kept s l = by_places (λ ys. total_figures (total_of ys)) 2 xs l (total_figures_lem _ _ s.2)

  pub header_kept : Bounded (fields_of k.Header) 0 xs → length xs ≡ 5 → header_figures (header_of xs) ≡ xs
  header_kept s l = by_places (λ ys. header_figures (header_of ys)) 5 xs l (header_figures_lem _ _ _ _ _ s.0 s.3.0 s.3.3.0 s.3.3.3.0 s.3.3.3.3.0)
