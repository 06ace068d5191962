-- The rooms of nights, put one table after another.
use Rattle.std.proofs.Common.{
  ◌≡◌,
  ◌∙◌,
  sym,
  ap,
  refl,
  ℕ,
  ◌+◌,
  ◌-◌,
  ◌≤◌,
  ◌<◌,
  Bool,
  true,
  false,
  cond,
  List,
  [],
  ◌∷◌,
  ◌++◌,
  map,
  length,
  take,
  get_or,
  set,
  eqb,
  le-leb,
  eq-eqb,
  Option,
  Some,
  None,
  is_some,
  is_none,
  unwrap_or,
  arith,
  inl,
  inr,
  length-set,
  length-append,
  get_or-set_same,
  get_or-set_other,
}
use Rattle.std.specs.List.{count_by}
use Rattle.std.proofs.lemmas.Bool.{cases_eq, and_parts, leb-true, ltb-true, lt-ltb}
use Rattle.std.proofs.lemmas.Bool.Decides.{nat_tests}
use Rattle.std.proofs.lemmas.List.{get_or-map, length-map, take_more}
use Rattle.std.proofs.lemmas.List.Sums.{sum_by-set, count_by-le-length}
use Rattle.std.proofs.lemmas.List.FromFn.{fill_by_all}
use Rattle.bp_hotelfile.specs.declared.error.HotelRefusal.{HotelRefusal}
use Rattle.bp_hotelfile.specs.declared.error.HotelRefusal.TheVariants.{NightOutside, TwiceNight}
use Rattle.bp_hotelfile.specs.declared.nights.NightTable.{NightTable}
use Rattle.bp_hotelfile.specs.Nights.{night_on, own_rooms, wrong_with, wrong_at, wrong_by_night, wrong_by_rooms, refused_table, rooms_by_night, Places}
use Rattle.bp_hotelfile.specs.Steps.{first_below}
use Rattle.bp_hotelfile.proofs.StepLemmas.{chosen, first_below-more, first_below-stays}

-- each night has the rooms of its table, and as many have rooms as there are tables
pub record Holds (first nights : ℕ) (tables : List (Option NightTable)) (own : List (Option ℕ)) : Type 0 where
  pub size : length own ≡ nights
  pub each : (n : ℕ) → n < nights → get_or own n None ≡ own_rooms tables (first + n)
  pub count : count_by is_some own ≡ length tables

pub Holds-none : (first nights : ℕ) (own : List (Option ℕ)) → length own ≡ nights → ((n : ℕ) → get_or own n None ≡ None) → count_by is_some own ≡ 0 →
    Holds first nights [] own
Holds-none first nights own size none count = record { size = size; each = λ n h. none n; count = count }

-- no more tables than nights
pub at_most_nights : (first nights : ℕ) (ts : List (Option NightTable)) (own : List (Option ℕ)) → Holds first nights ts own → length ts ≤ nights
at_most_nights first nights ts own h = omega (arith, h.size, h.count, count_by-le-length is_some own)

taken_or_free : (b : Bool) (x : ℕ) (rest : Option ℕ) → cond b (Some x) rest ≡ None → (b ≡ false) × (rest ≡ None)
taken_or_free true x rest e = absurd (cc)
taken_or_free false x rest e = (refl, e)

exchanged : (p q : Bool) (x y : ℕ) (rest : Option ℕ) → (p ≡ true → q ≡ true → ⊥) →
    cond p (Some x) (cond q (Some y) rest) ≡ cond q (Some y) (cond p (Some x) rest)
exchanged true true x y rest apart = absurd (apart refl refl)
exchanged true false x y rest apart = refl
exchanged false true x y rest apart = refl
exchanged false false x y rest apart = refl

not_both : (a b day : ℕ) → eqb a b ≡ false → eqb a day ≡ true → eqb b day ≡ true → ⊥
not_both a b day apart here there = grind (arith, nat_tests)

-- a table more, of a day that has none
pub own_rooms-more : (ts : List (Option NightTable)) (t : NightTable) (day : ℕ) → own_rooms ts t.day ≡ None →
    own_rooms (ts ++ Some t ∷ []) day ≡ cond (eqb t.day day) (Some t.rooms) (own_rooms ts day)
own_rooms-more [] t day free = refl
own_rooms-more (None ∷ ts) t day free = own_rooms-more ts t day free
own_rooms-more (Some u ∷ ts) t day free =
    let (apart, rest) = taken_or_free (eqb u.day t.day) u.rooms (own_rooms ts t.day) free in
    rw (own_rooms-more ts t day rest) (exchanged (eqb u.day day) (eqb t.day day) u.rooms t.rooms (own_rooms ts day) (not_both u.day t.day day apart))

-- the night of a day among the nights
pub night_on-is : (first nights n : ℕ) → n < nights → night_on first nights (first + n) ≡ Some n
night_on-is first nights n h =
    let back : first + n - first ≡ n = omega arith in
    rw (le-leb first (first + n) (omega arith), back, lt-ltb n nights h)

pub night_on-tells : (first nights day n : ℕ) → night_on first nights day ≡ Some n → (first + n ≡ day) × (n < nights)
night_on-tells first nights day n e =
    let (test, value) = chosen _ (day - first) n e in
    let (late, within) = and_parts _ _ test in
    let from : first ≤ day = leb-true first day late in
    let to : day - first < nights = ltb-true (day - first) nights within in
    (omega arith, omega arith)

-- what is wrong with a table is seen by the rooms of its night
outside_or_twice : (first nights index : ℕ) (earlier : List (Option NightTable)) (own : List (Option ℕ)) (t : NightTable) (night : Option ℕ) →
    Holds first nights earlier own → night_on first nights t.day ≡ night →
    wrong_by_night first index own night ≡
    cond (is_none night) (Some (NightOutside index)) (cond (is_some (own_rooms earlier t.day)) (Some (TwiceNight index)) None)
outside_or_twice first nights index earlier own t None h e = refl
outside_or_twice first nights index earlier own t (Some n) h e =
    let (day, within) = night_on-tells first nights t.day n e in
    rw (h.each n within, day)

pub wrong_by_rooms-is : (first nights index : ℕ) (earlier : List (Option NightTable)) (own : List (Option ℕ)) (table : Option NightTable) →
    Holds first nights earlier own → wrong_by_rooms first index own table ≡ wrong_with first nights index earlier table
wrong_by_rooms-is first nights index earlier own None h = refl
wrong_by_rooms-is first nights index earlier own (Some t) h =
    rw h.size (outside_or_twice first nights index earlier own t (night_on first nights t.day) h refl)

-- a table that is put at its night is right
pub right_with : (first nights index : ℕ) (earlier : List (Option NightTable)) (own new : List (Option ℕ)) (table : Option NightTable) →
    Holds first nights earlier own → Places first own table new → wrong_with first nights index earlier table ≡ None
right_with first nights index earlier own new table h p =
    let within : p.night < nights = omega (arith, h.size, p.in_range) in
    rw (p.table_is, night_on-is first nights p.night within, ← h.each p.night within, p.free)

-- and its rooms stand there
pub Holds-more : (first nights : ℕ) (earlier : List (Option NightTable)) (own new : List (Option ℕ)) (table : Option NightTable) →
    Holds first nights earlier own → Places first own table new → Holds first nights (earlier ++ table ∷ []) new
Holds-more first nights earlier own new table h p =
    let t : NightTable = record { day = first + p.night; rooms = p.rooms } in
    let within : p.night < nights = omega (arith, h.size, p.in_range) in
    let free : own_rooms earlier (first + p.night) ≡ None = sym (h.each p.night within) ∙ p.free in
    record {
      size = rw p.put (length-set own p.night (Some p.rooms) ∙ h.size);
      each = λ n below. rw (p.put, p.table_is, own_rooms-more earlier t (first + n) free) (put_at n below);
      count = rw (p.put, length-append earlier (table ∷ []))
          (omega (arith, h.count, rw p.free at (sum_by-set (λ o. cond (is_some o) 1 0) own p.night (Some p.rooms) None p.in_range)));
    }
  where
    put_at : (n : ℕ) → n < nights →
        get_or (set own p.night (Some p.rooms)) n None ≡ cond (eqb (first + p.night) (first + n)) (Some p.rooms) (own_rooms earlier (first + n))
    put_at n below =
        elim (cases_eq n p.night) [
          | inl here ↦ rw (here, eq-eqb _ _ refl, get_or-set_same own p.night (Some p.rooms) None p.in_range)
          | inr other ↦ let apart : eqb (first + p.night) (first + n) ≡ false = grind (arith, nat_tests) in
              rw (apart, get_or-set_other own p.night n (Some p.rooms) None other) (h.each n below)
        ]

-- the rooms of each night, once every table is put
pub rooms_by_night-is : (first nights rooms : ℕ) (tables : List (Option NightTable)) (own : List (Option ℕ)) →
    Holds first nights tables own → map (λ o. unwrap_or o rooms) own ≡ rooms_by_night first nights rooms tables
rooms_by_night-is first nights rooms tables own h =
    fill_by_all (λ n. unwrap_or (own_rooms tables (first + n)) rooms) (map (λ o. unwrap_or o rooms) own) nights 0 (length-map own _ ∙ h.size)
    (λ k below. let within : k < length own = omega (arith, h.size) in
    get_or-map (λ o. unwrap_or o rooms) own k None 0 within ∙ ap (λ o. unwrap_or o rooms) (h.each k below))

-- one table more is right, and its rooms stand at its night
pub table_more : (first nights index : ℕ) (tables : List (Option NightTable)) (own new : List (Option ℕ)) → index < length tables →
    first_below (wrong_at first nights tables) index ≡ None → Holds first nights (take index tables) own → Places first own (get_or tables index None) new →
    (first_below (wrong_at first nights tables) (index + 1) ≡ None) × Holds first nights (take (index + 1) tables) new
table_more first nights index tables own new below right h p = (
  first_below-more (wrong_at first nights tables) index right ∙ right_with first nights index (take index tables) own new (get_or tables index None) h p,
  rw (take_more tables index None below) (Holds-more first nights (take index tables) own new (get_or tables index None) h p),
)

-- the first table that is refused
pub table_refused : (first nights index : ℕ) (tables : List (Option NightTable)) (own : List (Option ℕ)) (e : HotelRefusal) → index < length tables →
    first_below (wrong_at first nights tables) index ≡ None → Holds first nights (take index tables) own →
    wrong_by_rooms first index own (get_or tables index None) ≡ Some e →
    refused_table first nights tables ≡ Some e
table_refused first nights index tables own e below right h wrong =
    let here : first_below (wrong_at first nights tables) (index + 1) ≡ Some e =
    first_below-more (wrong_at first nights tables) index right
    ∙ sym (wrong_by_rooms-is first nights index (take index tables) own (get_or tables index None) h) ∙ wrong in
    first_below-stays (wrong_at first nights tables) e (index + 1) (length tables) here (omega arith)
