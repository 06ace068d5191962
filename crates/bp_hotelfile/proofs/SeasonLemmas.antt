-- What is read is within its limits.
use Rattle.std.proofs.Common.{
  ◌≡◌,
  ◌∙◌,
  sym,
  ap,
  refl,
  ℕ,
  ◌+◌,
  ◌≤◌,
  Bool,
  true,
  false,
  cond,
  List,
  [],
  ◌∷◌,
  length,
  get_or,
  eqb,
  Option,
  Some,
  None,
  Result,
  Ok,
  Err,
  unwrap_or,
  option_and_then,
  arith,
  ℤ,
  pos,
  negsuc,
  codes,
  subst,
  take,
  drop,
  nat_le,
  ◌&&◌,
}
use Rattle.std.specs.Option.{ok_or, option_map}
use Rattle.std.proofs.lemmas.Bool.{and_parts, leb-true}
use Rattle.std.proofs.lemmas.Int.{by_lt_z}
use Rattle.std.proofs.lemmas.List.FromFn.{length-map-range_with_len, get_or-map-range_with_len}
use Rattle.toml.specs.Data.{Data, Members, Items, no_items, item, get, as_array, as_integer}
use Rattle.jiff_core.specs.Calendar.{day_count, days_in_month}
use Rattle.jiff_core.proofs.SignedLemmas.{signed_arith}
use Rattle.jiff_core.proofs.CalendarLemmas.{days_from_civil-day_count, day_count-later_year, day_count-day_of_year}
use Rattle.bp_types.specs.declared.command.Limits.{Limits}
use Rattle.bp_hotelfile.specs.declared.key.Key.{Key}
use Rattle.bp_hotelfile.specs.declared.key.Key.TheVariants as key
use Rattle.bp_types.specs.declared.limits.TheConstants.{MOST_NIGHTS, MOST_ROOMS, MOST_STALE_AFTER, MOST_ENTRIES, MOST_PUBLICATIONS, HUNDREDTHS}
use Rattle.bp_types.specs.House.{is_unit}
use Rattle.bp_hotelfile.specs.declared.date.TheConstants.{LAST_DAY}
use Rattle.bp_hotelfile.specs.declared.settings.TheConstants.{STALE_AFTER}
use Rattle.bp_hotelfile.specs.declared.error.HotelRefusal.{HotelRefusal}
use Rattle.bp_hotelfile.specs.declared.error.HotelRefusal.TheVariants.{Kind, Date, Range}
use Rattle.bp_hotelfile.specs.declared.settings.Settings.{Settings}
use Rattle.bp_hotelfile.specs.declared.nights.NightTable.{NightTable}
use Rattle.bp_hotelfile.specs.Steps.{◌>>=◌}
use Rattle.bp_hotelfile.specs.Numbers.{number, within, is_between}
use Rattle.bp_hotelfile.specs.Dates.{has_date_form, day_of, day_of_parts, day_number, is_civil_day, first_day}
use Rattle.bp_hotelfile.specs.Settings.{
  text_at,
  day_at,
  number_in,
  number_at,
  number_or,
  or_else,
  unit_in,
  unit_at,
  first_with,
  limits_of,
  settings_of,
  value_at,
  required,
}
use Rattle.bp_hotelfile.specs.Nights.{both, day_under, rooms_under, night_table, night_tables, tables_in, tables_at, own_rooms, refused_table, rooms_by_night}
use Rattle.bp_hotelfile.specs.Season.{Season, IsSeason, tree_of, season_with, unless_refused, season_of}
use Rattle.bp_hotelfile.proofs.DayLemmas.{first_of_year_one}
use Rattle.bp_hotelfile.proofs.StepLemmas.{steps_tell, ok_or_tells, and_then_tells, chosen, chosen_option, chosen_ok}

within-tells : (least most : ℕ) (z : ℤ) (n : ℕ) → within least most z ≡ Some n → is_between least most n ≡ true
within-tells least most (pos k) n e = let (test, same) = chosen (is_between least most k) k n e in ap (is_between least most) (sym same) ∙ test
within-tells least most (negsuc k) n e = absurd (cc)

number_in-tells : (k : Key) (least most : ℕ) (d : Data) (n : ℕ) → number_in k least most d ≡ Ok n → is_between least most n ≡ true
number_in-tells k least most d n e =
    let (z, whole, in_range) = steps_tell (ok_or (as_integer d) (Kind k)) (λ z. ok_or (within least most z) (Range k)) n e in
    within-tells least most z n (ok_or_tells (within least most z) (Range k) n in_range)

number_at-tells : (k : Key) (least most : ℕ) (tree : Members) (n : ℕ) → number_at k least most tree ≡ Ok n → is_between least most n ≡ true
number_at-tells k least most tree n e = let (d, there, is) = steps_tell (required k tree) (number_in k least most) n e in number_in-tells k least most d n is

or_else-tells : (absent : ℕ) (read : Data → Result ℕ HotelRefusal) (test : ℕ → Bool) (o : Option Data) (n : ℕ) → test absent ≡ true →
    ((d : Data) → read d ≡ Ok n → test n ≡ true) → or_else absent read o ≡ Ok n → test n ≡ true
or_else-tells absent read test None n good each e = let same : absent ≡ n = (cc) in ap test (sym same) ∙ good
or_else-tells absent read test (Some d) n good each e = each d e

number_or-tells : (absent : ℕ) (k : Key) (least most : ℕ) (tree : Members) (n : ℕ) → is_between least most absent ≡ true →
    number_or absent k least most tree ≡ Ok n → is_between least most n ≡ true
number_or-tells absent k least most tree n good e =
    or_else-tells absent (number_in k least most) (is_between least most) (value_at k tree) n good (λ d h. number_in-tells k least most d n h) e

unit_at-tells : (tree : Members) (n : ℕ) → unit_at tree ≡ Ok n → is_unit n ≡ true
unit_at-tells tree n e =
    or_else-tells 1 unit_in is_unit (value_at key.Unit tree) n refl
    (λ d h. let (u, read, is) = steps_tell (number_in key.Unit 1 HUNDREDTHS d) (λ u. cond (is_unit u) (Ok u) (Err (Range key.Unit))) n h in
    let (test, same) = chosen_ok (is_unit u) u n (Range key.Unit) is in
    ap is_unit (sym same) ∙ test) e

-- every date is from 0001-01-01 on
number_from_first : (y m d : ℕ) → 1 ≤ y → 1 ≤ d → first_day ≤ day_number y m d
number_from_first y m d year date =
    let within_year = day_count-day_of_year (pos y) m d date in
    let years : 3_652_791 ≤ day_count (pos y) 1 1 = by_lt_z (pos 1) (pos y)
    (λ lt. omega (arith, day_count-later_year (pos 1) (pos y) (omega (arith, signed_arith)) lt, first_of_year_one))
    (λ le. let e : y ≡ 1 = omega (arith, signed_arith) in rw e (omega (arith, first_of_year_one))) in
    omega (arith, signed_arith, days_from_civil-day_count (pos y) m d, within_year, years)

day_of-tells : (t : List ℕ) (day : ℕ) → day_of t ≡ Some day → first_day ≤ day
day_of-tells t day e =
    let y = number (take 4 t) in
    let m = number (take 2 (drop 5 t)) in
    let d = number (take 2 (drop 8 t)) in
    let (form, parts) = chosen_option (has_date_form t) (day_of_parts y m d) day e in
    let (civil, same) = chosen (is_civil_day y m d) (day_number y m d) day parts in
    let (year_and_month, date) = and_parts (is_between 1 9999 y && is_between 1 12 m) (is_between 1 (days_in_month (pos y) m) d) civil in
    let (year, month) = and_parts (is_between 1 9999 y) (is_between 1 12 m) year_and_month in
    let late = number_from_first y m d (leb-true 1 y (and_parts (nat_le 1 y) (nat_le y 9999) year).0)
    (leb-true 1 d (and_parts (nat_le 1 d) (nat_le d (days_in_month (pos y) m)) date).0) in
    omega (arith, late, same)

day_at-tells : (k : Key) (tree : Members) (day : ℕ) → day_at k tree ≡ Ok day → first_day ≤ day
day_at-tells k tree day e =
    let (text, there, is) = steps_tell (text_at k tree) (λ text. ok_or (day_of text) (Date k)) day e in
    day_of-tells text day (ok_or_tells (day_of text) (Date k) day is)

-- what is known of settings that were read
pub record AreRead (s : Settings) : Type 0 where
  pub nights : is_between 1 MOST_NIGHTS s.nights ≡ true
  pub from : first_day ≤ s.first
  pub to : s.first + s.nights ≤ LAST_DAY
  pub rooms : is_between 0 MOST_ROOMS s.rooms ≡ true
  pub stale_after : is_between 1 MOST_STALE_AFTER s.limits.stale_after ≡ true
  pub entries : is_between 1 MOST_ENTRIES s.limits.entries ≡ true
  pub publications : is_between 1 MOST_PUBLICATIONS s.limits.publications ≡ true
  pub unit : is_unit s.limits.unit ≡ true

-- a number, or a refusal
abbrev Answer : Type 0
Answer = Result ℕ HotelRefusal

limits_parts : (a b d u : Answer) (l : Limits) →
    (a >>= (λ stale_after. b >>=
    (λ entries. d >>= (λ publications. u >>=
    (λ unit. Ok (record { stale_after = stale_after; entries = entries; publications = publications; unit = unit })))))) ≡ Ok l →
    (a ≡ Ok l.stale_after) × (b ≡ Ok l.entries) × (d ≡ Ok l.publications) × (u ≡ Ok l.unit)
limits_parts (Ok a) (Ok b) (Ok d) (Ok u) l e =
    let same : record { stale_after = a; entries = b; publications = d; unit = u } ≡ l = (cc) in (
      ap (λ (x : Limits). Ok x.stale_after) same,
      ap (λ (x : Limits). Ok x.entries) same,
      ap (λ (x : Limits). Ok x.publications) same,
      ap (λ (x : Limits). Ok x.unit) same,
    )
limits_parts (Err x) b d u l e = absurd (cc)
limits_parts (Ok a) (Err x) d u l e = absurd (cc)
limits_parts (Ok a) (Ok b) (Err x) u l e = absurd (cc)
limits_parts (Ok a) (Ok b) (Ok d) (Err x) l e = absurd (cc)

last_parts : (f r : Answer) (l : Result Limits HotelRefusal) (nights : ℕ) (s : Settings) →
    (f >>= (λ first. r >>= (λ rooms. l >>= (λ limits. Ok (record { first = first; nights = nights; rooms = rooms; limits = limits }))))) ≡ Ok s →
    (f ≡ Ok s.first) × (nights ≡ s.nights) × (r ≡ Ok s.rooms) × (l ≡ Ok s.limits)
last_parts (Ok f) (Ok r) (Ok l) nights s e =
    let same : record { first = f; nights = nights; rooms = r; limits = l } ≡ s = (cc) in (
      ap (λ (x : Settings). Ok x.first) same,
      ap (λ (x : Settings). x.nights) same,
      ap (λ (x : Settings). Ok x.rooms) same,
      ap (λ (x : Settings). Ok x.limits) same,
    )
last_parts (Err x) r l nights s e = absurd (cc)
last_parts (Ok f) (Err x) l nights s e = absurd (cc)
last_parts (Ok f) (Ok r) (Err x) nights s e = absurd (cc)

settings_parts : (a : Result (List ℕ) HotelRefusal) (b n : Answer) (f : ℕ → ℕ → Answer) (r : Answer) (l : Result Limits HotelRefusal) (s : Settings) →
    (a >>= (λ _. b >>= (λ first. n >>=
    (λ nights. f first nights >>=
    (λ first. r >>= (λ rooms. l >>= (λ limits. Ok (record { first = first; nights = nights; rooms = rooms; limits = limits })))))))) ≡ Ok s →
    (day : ℕ) × (b ≡ Ok day) × (n ≡ Ok s.nights) × (f day s.nights ≡ Ok s.first) × (r ≡ Ok s.rooms) × (l ≡ Ok s.limits)
settings_parts (Ok a) (Ok b) (Ok n) f r l s e =
    let (first, nights, rooms, limits) = last_parts (f b n) r l n s e in
    (b, refl, ap (λ x. Ok x) nights, ap (f b) (sym nights) ∙ first, rooms, limits)
settings_parts (Err x) b n f r l s e = absurd (cc)
settings_parts (Ok a) (Err x) n f r l s e = absurd (cc)
settings_parts (Ok a) (Ok b) (Err x) f r l s e = absurd (cc)

pub settings_tell : (tree : Members) (s : Settings) → settings_of tree ≡ Ok s → AreRead s
settings_tell tree s e =
    let (day, first, nights, fits, rooms, limits) =
    settings_parts (text_at key.Name tree) (day_at key.FirstNight tree) (number_at key.Nights 1 MOST_NIGHTS tree) first_with
    (number_at key.Rooms 0 MOST_ROOMS tree) (limits_of tree) s e in
    let (stale_after, entries, publications, unit) =
    limits_parts (number_or STALE_AFTER key.StaleAfter 1 MOST_STALE_AFTER tree) (number_or MOST_ENTRIES key.Entries 1 MOST_ENTRIES tree)
    (number_or MOST_PUBLICATIONS key.Publications 1 MOST_PUBLICATIONS tree) (unit_at tree) s.limits limits in
    let (short, same) = chosen_ok (nat_le (day + s.nights) LAST_DAY) day s.first (Range key.FirstNight) fits in
    let start = day_at-tells key.FirstNight tree day first in
    record {
      nights = number_at-tells key.Nights 1 MOST_NIGHTS tree s.nights nights;
      from = omega (arith, start, same);
      to = omega (arith, leb-true (day + s.nights) LAST_DAY short, same);
      rooms = number_at-tells key.Rooms 0 MOST_ROOMS tree s.rooms rooms;
      stale_after = number_or-tells STALE_AFTER key.StaleAfter 1 MOST_STALE_AFTER tree s.limits.stale_after refl stale_after;
      entries = number_or-tells MOST_ENTRIES key.Entries 1 MOST_ENTRIES tree s.limits.entries refl entries;
      publications = number_or-tells MOST_PUBLICATIONS key.Publications 1 MOST_PUBLICATIONS tree s.limits.publications refl publications;
      unit = unit_at-tells tree s.limits.unit unit;
    }

pub at_most : (least most n : ℕ) → is_between least most n ≡ true → (least ≤ n) × (n ≤ most)
at_most least most n e =
    let (low, high) = and_parts (nat_le least n) (nat_le n most) e in
    (leb-true least n low, leb-true n most high)

both-tells : (day rooms : Option ℕ) (t : NightTable) → both day rooms ≡ Some t → rooms ≡ Some t.rooms
both-tells None rooms t e = absurd (cc)
both-tells (Some d) None t e = absurd (cc)
both-tells (Some d) (Some r) t e = let same : record { day = d; rooms = r } ≡ t = (cc) in ap (λ (x : NightTable). Some x.rooms) same

-- the number of rooms of a table is in range
table_rooms : (d : Data) (t : NightTable) → night_table d ≡ Some t → t.rooms ≤ MOST_ROOMS
table_rooms d t e =
    let (z, there, is) = and_then_tells (within 0 MOST_ROOMS) (option_and_then as_integer (get (codes "rooms") d)) t.rooms
    (both-tells (day_under d) (rooms_under d) t e) in
    (at_most 0 MOST_ROOMS t.rooms (within-tells 0 MOST_ROOMS z t.rooms is)).1

-- rooms that tables give are in range
abbrev pub RoomsFit : List (Option NightTable) → Type 0
RoomsFit ts = (day r : ℕ) → own_rooms ts day ≡ Some r → r ≤ MOST_ROOMS

one_more_fits : (o : Option NightTable) (ts : List (Option NightTable)) → ((t : NightTable) → o ≡ Some t → t.rooms ≤ MOST_ROOMS) → RoomsFit ts →
    RoomsFit (o ∷ ts)
one_more_fits None ts here rest day r e = rest day r e
one_more_fits (Some t) ts here rest day r e = by_test (eqb t.day day) e
  where
    by_test : (b : Bool) → cond b (Some t.rooms) (own_rooms ts day) ≡ Some r → r ≤ MOST_ROOMS
    by_test true h = let same : t.rooms ≡ r = (cc) in omega (arith, here t refl, same)
    by_test false h = rest day r h

items_fit : (ds : Items) → RoomsFit (night_tables ds)
items_fit no_items = λ day r e. absurd (cc)
items_fit (item d ds) = one_more_fits (night_table d) (night_tables ds) (table_rooms d) (items_fit ds)

array_fits : (o : Option Items) (e : HotelRefusal) (tables : List (Option NightTable)) → ok_or (option_map night_tables o) e ≡ Ok tables → RoomsFit tables
array_fits None e tables h = absurd (cc)
array_fits (Some ds) e tables h = let same : night_tables ds ≡ tables = (cc) in subst RoomsFit same (items_fit ds)

pub tables_fit : (o : Option Data) (tables : List (Option NightTable)) → tables_in o ≡ Ok tables → RoomsFit tables
tables_fit None tables h = let same : [] ≡ tables = (cc) in subst RoomsFit same (λ day r e. absurd (cc))
tables_fit (Some d) tables h = array_fits (as_array d) (Kind key.Night) tables h

own_or_all : (o : Option ℕ) (rooms : ℕ) → ((r : ℕ) → o ≡ Some r → r ≤ MOST_ROOMS) → rooms ≤ MOST_ROOMS → unwrap_or o rooms ≤ MOST_ROOMS
own_or_all None rooms own all = all
own_or_all (Some r) rooms own all = own r refl

-- settings that are read, and tables, make a season
pub season_is : (s : Settings) (tables : List (Option NightTable)) (rooms : List ℕ) → AreRead s → RoomsFit tables →
    rooms ≡ rooms_by_night s.first s.nights s.rooms tables →
    IsSeason (record { first = s.first; rooms = rooms; limits = s.limits })
season_is s tables rooms read fit e =
    let nights = at_most 1 MOST_NIGHTS s.nights read.nights in
    let long : length rooms ≡ s.nights = ap (λ (xs : List ℕ). length xs) e ∙
    length-map-range_with_len (λ n. unwrap_or (own_rooms tables (s.first + n)) s.rooms) 0 s.nights in
    record {
      some_night = omega (arith, nights.0, long);
      nights = omega (arith, nights.1, long);
      rooms = λ k d below.
          let at : get_or rooms k d ≡ unwrap_or (own_rooms tables (s.first + k)) s.rooms =
          rw e (get_or-map-range_with_len (λ n. unwrap_or (own_rooms tables (s.first + n)) s.rooms) 0 s.nights k k d (omega (arith, long)) (omega arith)) in
          rw at (own_or_all (own_rooms tables (s.first + k)) s.rooms (fit (s.first + k)) (at_most 0 MOST_ROOMS s.rooms read.rooms).1);
      from = read.from;
      to = omega (arith, read.to, long);
      stale_after = read.stale_after;
      entries = read.entries;
      publications = read.publications;
      unit = read.unit;
    }

unless_refused-tells : (o : Option HotelRefusal) (made season : Season) → unless_refused o made ≡ Ok season → made ≡ season
unless_refused-tells None made season e = (cc)
unless_refused-tells (Some refusal) made season e = absurd (cc)

-- what a hotel file says keeps to every limit
pub season_of-tells : (bytes : List ℕ) (season : Season) → season_of bytes ≡ Ok season → IsSeason season
season_of-tells bytes season e =
    let (tree, parsed, rest) =
    steps_tell (tree_of bytes)
    (λ tree. settings_of tree >>= (λ s. tables_at tree >>= (λ tables. unless_refused (refused_table s.first s.nights tables) (season_with s tables))))
    season e in
    let (s, settings, more) =
    steps_tell (settings_of tree) (λ s. tables_at tree >>= (λ tables. unless_refused (refused_table s.first s.nights tables) (season_with s tables)))
    season rest in
    let (tables, listed, last) =
    steps_tell (tables_at tree) (λ tables. unless_refused (refused_table s.first s.nights tables) (season_with s tables)) season more in
    let same = unless_refused-tells (refused_table s.first s.nights tables) (season_with s tables) season last in
    subst (λ x. IsSeason x) same
    (season_is s tables (season_with s tables).rooms (settings_tell tree s settings) (tables_fit (value_at key.Night tree) tables listed) refl)
