-- The rooms sold on each night.
use Rattle.std.proofs.Common.{
  ◌≡◌,
  ℕ,
  ◌+◌,
  ◌*◌,
  ◌≤◌,
  ◌<◌,
  Bool,
  true,
  false,
  cond,
  nat_le,
  nat_lt,
  ◌&&◌,
  List,
  length,
  get_or,
  set,
  Option,
  None,
  unwrap_or,
  find,
  Ok,
  arith,
  inl,
  inr,
  get_or-set_same,
  get_or-set_other,
  le-leb,
  add-one,
}
use Rattle.std.specs.List.{range_with_len}
use Rattle.std.proofs.lemmas.Bool.{cases_eq, lt-ltb, le-ltb}
use Rattle.std.proofs.lemmas.Bool.Decides.{nat_tests}
use Rattle.bp_types.specs.declared.stay.Span.{Span}
use Rattle.bp_types.specs.declared.stay.Stay.{Stay}
use Rattle.bp_types.specs.House.{is_oversold}
use Rattle.bp_types.specs.Program.{covers, no_stay}
use Rattle.bp_stayfile.specs.declared.counts.Counted.{Counted}
use Rattle.bp_stayfile.specs.Counts.{counts_file}
use Rattle.bp_stayfile.specs.StayList.{StayList}
use Rattle.bp_stayfile.specs.Bookings.{sold_by_night, bookings_file, unless_overbooked}
use Rattle.bp_stayfile.specs.LaidOut.{sold_at}

-- one night more has the rooms
pub night_more : (old sold : List ℕ) (from night rooms n : ℕ) → from ≤ night → night < length sold →
    ((k : ℕ) → get_or sold k 0 ≡ get_or old k 0 + cond (nat_le from k && nat_lt k night) rooms 0) →
    get_or (set sold night (get_or sold night 0 + rooms)) n 0 ≡ get_or old n 0 + cond (nat_le from n && nat_lt n (night + 1)) rooms 0
night_more old sold from night rooms n above below so_far =
    elim (cases_eq n night) [
      | inl here ↦
          let before : get_or sold night 0 ≡ get_or old night 0 = let h = so_far night in
          let out : nat_lt night night ≡ false = le-ltb night night (omega arith) in omega (arith, rw (le-leb from night above, out) at h) in
          let now : nat_lt night (night + 1) ≡ true = lt-ltb night (night + 1) (omega arith) in
          rw (here, get_or-set_same sold night (get_or sold night 0 + rooms) 0 below, le-leb from night above, now) (omega (arith, before))
      | inr other ↦
          let same : nat_lt n (night + 1) ≡ nat_lt n night = grind (arith, nat_tests) in
          rw (get_or-set_other sold night n (get_or sold night 0 + rooms) 0 other, same) (so_far n)
    ]

-- a night and a stay more
pub stay_more : (places : List (Option ℕ)) (stays : List Stay) (j n : ℕ) (span : Span) (before after rooms : ℕ) → span ≡ (get_or stays j no_stay).span →
    rooms ≡ unwrap_or (get_or places j None) 0 →
    before ≡ sold_at places stays j n → after ≡ before + cond (covers span n) rooms 0 → after ≡ sold_at places stays (j + 1) n
stay_more places stays j n span before after rooms same_span same_rooms so_far e =
    rw (add-one, ← same_span, ← same_rooms, ← so_far) e

chosen-le : (b : Bool) (x most : ℕ) → x ≤ most → cond b x 0 ≤ most
chosen-le true x most h = h
chosen-le false x most h = omega arith

pub small_more : (b : Bool) (before after rooms most j : ℕ) → rooms ≤ most → before ≤ most * j → after ≡ before + cond b rooms 0 → after ≤ most * (j + 1)
small_more b before after rooms most j small so_far e = omega (arith, chosen-le b rooms most small, so_far, e)

-- what a bookings file says, by its counts
pub bookings_are : (rooms : List ℕ) (list : StayList) (bytes : List ℕ) (counts : List Counted) (sold : List ℕ) (night : Option ℕ) →
    counts_file list.codes bytes ≡ Ok counts →
    sold ≡ sold_by_night (length rooms) counts list.stays → night ≡ find (is_oversold rooms sold) (range_with_len 0 (length rooms)) →
    bookings_file rooms list bytes ≡ unless_overbooked night sold
bookings_are rooms list bytes counts sold night read same oversold = rw (read, ← same, ← oversold)
