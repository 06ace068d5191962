-- Rooms that change by as much on each night of a span.
use Rattle.std.proofs.Common.{◌≡◌, sym, subst, ℕ, ◌<◌, ◌≤◌, arith, Bool, true, false, List, length, get_or, slice_index, inl, inr}
use Rattle.std.proofs.lemmas.Bool.{cases_lt, cond-true, cond-false}
use Rattle.std.proofs.lemmas.List.FromFn.{length-map-range_with_len, get_or-map-range_with_len, fill_by_all}
use Rattle.bp_types.specs.declared.stay.Span.{Span}
use Rattle.bp_types.specs.declared.change.Change.TheVariants.{Rooms}
use Rattle.bp_types.specs.Program.{Program}
use Rattle.bp_types.specs.Rooms.{moved, room_moved, rooms_moved}
use Rattle.bp_types.specs.Changes.{changed, Fits}
use Rattle.bp_types.specs.declared.limits.TheConstants.{MOST_UNITS}
use Rattle.bp_types.specs.Limits.{IsWithinLimits}
use Rattle.bp_types.proofs.Spans.{covers_inside, covers_before, covers_past}

pub length-rooms_moved : (rooms : List ℕ) (s : Span) (up : Bool) (units : ℕ) → length (rooms_moved rooms s up units) ≡ length rooms
length-rooms_moved rooms s up units = length-map-range_with_len (room_moved rooms s up units) 0 (length rooms)

pub rooms_moved-at : (rooms : List ℕ) (s : Span) (up : Bool) (units n d : ℕ) → n < length rooms →
    get_or (rooms_moved rooms s up units) n d ≡ room_moved rooms s up units n
rooms_moved-at rooms s up units n d h = get_or-map-range_with_len (room_moved rooms s up units) 0 (length rooms) n n d h (omega arith)

pub room_moved-inside : (rooms : List ℕ) (s : Span) (up : Bool) (units n : ℕ) → s.from ≤ n → n < s.to →
    room_moved rooms s up units n ≡ moved (slice_index rooms n) up units
room_moved-inside rooms s up units n above below = cond-true _ _ _ (covers_inside s.from s.to n above below)

pub room_moved-before : (rooms : List ℕ) (s : Span) (up : Bool) (units n : ℕ) → n < s.from → room_moved rooms s up units n ≡ slice_index rooms n
room_moved-before rooms s up units n h = cond-false _ _ _ (covers_before s.from s.to n h)

pub room_moved-past : (rooms : List ℕ) (s : Span) (up : Bool) (units n : ℕ) → s.to ≤ n → room_moved rooms s up units n ≡ slice_index rooms n
room_moved-past rooms s up units n h = cond-false _ _ _ (covers_past s.from s.to n h)

-- a list that has the rooms moved on each night is the list of them
pub moved_by_all : (old new : List ℕ) (s : Span) (up : Bool) (units : ℕ) → length new ≡ length old →
    ((k : ℕ) → k < s.to → slice_index new k ≡ room_moved old s up units k) → ((k : ℕ) → s.to ≤ k → slice_index new k ≡ slice_index old k) →
    new ≡ rooms_moved old s up units
moved_by_all old new s up units each done left = fill_by_all (room_moved old s up units) new (length old) 0 each (λ k h.
    elim (cases_lt k s.to) [
      | inl inside ↦ done k inside
      | inr past ↦ let e = room_moved-past old s up units k past in omega (arith, left k past, e)
    ])

-- rooms that keep to their limit on the span keep to it
room_in_limit : (p : Program) (s : Span) (up : Bool) (units n : ℕ) → IsWithinLimits p → Fits p (Rooms s up units) → n < length p.rooms →
    room_moved p.rooms s up units n ≤ MOST_UNITS
room_in_limit p s up units n limits fits h =
    let was : slice_index p.rooms n ≤ MOST_UNITS = limits.rooms n 0 h in
    elim (cases_lt n s.from) [
      | inl before ↦ let e = room_moved-before p.rooms s up units n before in omega (arith, e, was)
      | inr above ↦ elim (cases_lt n s.to) [
        | inr past ↦ let e = room_moved-past p.rooms s up units n past in omega (arith, e, was)
        | inl inside ↦ let e = room_moved-inside p.rooms s up units n above inside in omega (arith, e, in_span up fits above inside was)
      ]
    ]
  where
    in_span : (up : Bool) → Fits p (Rooms s up units) → s.from ≤ n → n < s.to → slice_index p.rooms n ≤ MOST_UNITS →
        moved (slice_index p.rooms n) up units ≤ MOST_UNITS
    in_span true fits above below was = fits.1 n above below
    in_span false fits above below was = omega (arith, was)

pub rooms_keep_limits : (p : Program) (s : Span) (up : Bool) (units : ℕ) → IsWithinLimits p → Fits p (Rooms s up units) →
    IsWithinLimits (changed p (Rooms s up units))
rooms_keep_limits p s up units limits fits =
    let each = length-rooms_moved p.rooms s up units in
    record {
      some_night = omega (arith, limits.some_night, each);
      nights = omega (arith, limits.nights, each);
      stays = limits.stays;
      rooms = λ k d h. let e = rooms_moved-at p.rooms s up units k d (omega (arith, each)) in
          omega (arith, e, room_in_limit p s up units k limits fits (omega (arith, each)));
      spans = λ k d h. let w = limits.spans k d h in (w.0, omega (arith, w.1, each));
      rates = limits.rates;
      forecasts = limits.forecasts;
    }

pub moved_rooms_keep_limits : (p : Program) (s : Span) (up : Bool) (units : ℕ) (rooms : List ℕ) → IsWithinLimits p → Fits p (Rooms s up units) →
    rooms ≡ rooms_moved p.rooms s up units →
    IsWithinLimits (record { rooms = rooms; stays = p.stays })
moved_rooms_keep_limits p s up units rooms limits fits e =
    let P : List ℕ → Type 0 = λ r. IsWithinLimits (record { rooms = r; stays = p.stays }) in subst P (sym e) (rooms_keep_limits p s up units limits fits)
