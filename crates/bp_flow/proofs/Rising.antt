-- A move of a whole shortage brings rooms nearer by as many units: so repairs follow the rises of what is lacking.
use Rattle.std.proofs.Common.{◌≡◌, ℕ, ◌+◌, ◌<◌, ◌≤◌, zero, suc, ap, ◌∙◌, refl, arith, List, Bool, true, false, length, slice_index, inl, inr}
use Rattle.std.proofs.lemmas.Bool.{cases_eq, cases_lt}
use Rattle.bp_types.specs.declared.stay.Span.{Span}
use Rattle.bp_types.specs.Program.{Program}
use Rattle.bp_types.specs.Rooms.{moved, room_moved}
use Rattle.bp_types.specs.Sums.{sum_below}
use Rattle.bp_types.proofs.RoomLemmas.{room_moved-inside, room_moved-before, room_moved-past}
use Rattle.bp_types.proofs.SumLemmas.{sum_below-at, sum_below-cong, sum_below-le, sum_below-zero}
use Rattle.bp_flow.specs.Rising.{rise_at, rises, rise_of, prior, repairs}
use Rattle.bp_flow.specs.Solvers.{IsShortage, HasAll, CountsSearches, lacking, lack_at}

-- some numbers fall by as many units from one place up to another; before the first and at the second there is none
record IsCut (a b : ℕ → ℕ) (from to units most : ℕ) : Type 0 where
  before : (k : ℕ) → k < from → b k ≡ a k
  inside : (k : ℕ) → from ≤ k → k < to → b k + units ≡ a k
  past : (k : ℕ) → to ≤ k → k < most → b k ≡ a k
  first : (k : ℕ) → suc k ≡ from → a k ≡ 0
  last : to < most → a to ≡ 0
  some : from < to

-- the rise at the first place falls by as much
rise_falls : (a b : ℕ → ℕ) (from to units most : ℕ) → IsCut a b from to units most → rise_of b from + units ≡ rise_of a from
rise_falls a b zero to units most cut = omega (arith, cut.inside 0 (omega arith) cut.some)
rise_falls a b (suc k) to units most cut = omega (arith, cut.inside (suc k) (omega arith) cut.some, cut.before k (omega arith), cut.first k refl)

-- and no other rise changes
rise_stays : (a b : ℕ → ℕ) (from to units most : ℕ) → IsCut a b from to units most → (k : ℕ) → k < most → (k ≡ from → ⊥) → rise_of b k ≡ rise_of a k
rise_stays a b from to units most cut zero h ne = omega (arith, cut.before 0 (omega (arith, ne)))
rise_stays a b from to units most cut (suc k) h ne =
    elim (cases_lt (suc k) from) [
      | inl before ↦ omega (arith, cut.before k (omega (arith, before)), cut.before (suc k) before)
      | inr above ↦ elim (cases_lt (suc k) to) [
        | inl inside ↦ omega (arith, cut.inside k (omega (arith, above, ne)) (omega (arith, inside)), cut.inside (suc k) (omega (arith, above)) inside)
        | inr past ↦ elim (cases_eq (suc k) to) [
          | inl end ↦
              let none : a (suc k) ≡ 0 = ap a end ∙ cut.last (omega (arith, end, h)) in
              omega (arith, none, cut.past (suc k) (omega (arith, past)) h)
          | inr beyond ↦ omega (arith, cut.past k (omega (arith, past, beyond)) (omega (arith, h)), cut.past (suc k) (omega (arith, past)) h)
        ]
      ]
    ]

rises_fall : (a b : ℕ → ℕ) (from to units most : ℕ) → IsCut a b from to units most → from < most →
    sum_below (rise_of b) most + units ≡ sum_below (rise_of a) most
rises_fall a b from to units most cut h =
    let same = sum_below-at (rise_of b) (rise_of a) most from h (rise_stays a b from to units most cut) in
    omega (arith, same, rise_falls a b from to units most cut)

prior_same : (a b : ℕ → ℕ) (most : ℕ) → ((k : ℕ) → k < most → b k ≡ a k) → (k : ℕ) → k < most → prior b k ≡ prior a k
prior_same a b most same zero h = refl
prior_same a b most same (suc k) h = same k (omega (arith, h))

rises_stay : (a b : ℕ → ℕ) (most : ℕ) → ((k : ℕ) → k < most → b k ≡ a k) → sum_below (rise_of b) most ≡ sum_below (rise_of a) most
rises_stay a b most same = sum_below-cong (rise_of b) (rise_of a) most (λ k h. omega (arith, same k h, prior_same a b most same k h))

-- what a night lacks where it gets, or gives, so many of what it lacks
lack_falls : (up : Bool) (has wants units : ℕ) → units ≤ lacking up has wants → lacking up (moved has up units) wants + units ≡ lacking up has wants
lack_falls true has wants units less = omega (arith, less)
lack_falls false has wants units less = omega (arith, less)

-- a whole shortage is cut out of what is lacking
shortage_cut : (program : Program) (was now : List ℕ) (up : Bool) (night to units : ℕ) → IsShortage program was up night to units →
    HasAll up program.rooms was to → ((n : ℕ) → n < night → slice_index was n ≡ slice_index program.rooms n)
    → ((n : ℕ) → n < length program.rooms → slice_index now n ≡ room_moved was (record { from = night; to = to }) up units n) →
    IsCut (lack_at up was program.rooms) (lack_at up now program.rooms) night to units (length program.rooms)
shortage_cut program was now up night to units shortage whole done at =
    let span : Span = record { from = night; to = to } in
    let lack : ℕ → ℕ → ℕ = λ n x. lacking up x (slice_index program.rooms n) in
    record {
      before = λ k h. ap (lack k) (at k (omega (arith, h, shortage.some_night, shortage.in_range)) ∙ room_moved-before was span up units k h);
      inside = λ k above below.
          let is = ap (lack k) (at k (omega (arith, below, shortage.in_range)) ∙ room_moved-inside was span up units k above below) in
          omega (arith, is, lack_falls up (slice_index was k) (slice_index program.rooms k) units (shortage.each k above below));
      past = λ k above h. ap (lack k) (at k h ∙ room_moved-past was span up units k above);
      first = λ k e. lacks_none up (slice_index was k) (slice_index program.rooms k) (done k (omega (arith, e)));
      last = whole;
      some = shortage.some_night;
    }
  where
    lacks_none : (b : Bool) (has wants : ℕ) → has ≡ wants → lacking b has wants ≡ 0
    lacks_none true has wants same = omega (arith, same)
    lacks_none false has wants same = omega (arith, same)

-- and what other nights have too many, or lack, stays
other_stays : (program : Program) (was now : List ℕ) (up other : Bool) (night to units : ℕ) →
    ((has wants : ℕ) → units ≤ lacking up has wants → lacking other (moved has up units) wants ≡ lacking other has wants) →
    IsShortage program was up night to units
    → ((n : ℕ) → n < length program.rooms → slice_index now n ≡ room_moved was (record { from = night; to = to }) up units n) → (k : ℕ) →
    k < length program.rooms → lack_at other now program.rooms k ≡ lack_at other was program.rooms k
other_stays program was now up other night to units keeps shortage at k h =
    let span : Span = record { from = night; to = to } in
    let lack : ℕ → ℕ = λ x. lacking other x (slice_index program.rooms k) in
    elim (cases_lt k night) [
      | inl before ↦ ap lack (at k h ∙ room_moved-before was span up units k before)
      | inr above ↦ elim (cases_lt k to) [
        | inl inside ↦ ap lack (at k h ∙ room_moved-inside was span up units k (omega (arith, above)) inside) ∙
            keeps (slice_index was k) (slice_index program.rooms k) (shortage.each k (omega (arith, above)) inside)
        | inr past ↦ ap lack (at k h ∙ room_moved-past was span up units k (omega (arith, past)))
      ]
    ]

-- rooms are nearer after a move of a whole shortage, by as many repairs as units
pub repairs_fall : (program : Program) (was now : List ℕ) (up : Bool) (night to units : ℕ) → IsShortage program was up night to units →
    HasAll up program.rooms was to → ((n : ℕ) → n < night → slice_index was n ≡ slice_index program.rooms n)
    → ((n : ℕ) → n < length program.rooms → slice_index now n ≡ room_moved was (record { from = night; to = to }) up units n) →
    repairs now program.rooms + units ≡ repairs was program.rooms
repairs_fall program was now true night to units shortage whole done at =
    let some = shortage.some_units in
    let nights = length program.rooms in
    let falls = rises_fall (lack_at true was program.rooms) (lack_at true now program.rooms) night to units nights
    (shortage_cut program was now true night to units shortage whole done at) (omega (arith, shortage.some_night, shortage.in_range)) in
    let stays = rises_stay (lack_at false was program.rooms) (lack_at false now program.rooms) nights
    (other_stays program was now true false night to units (λ has wants less. omega (arith, less, some)) shortage at) in
    omega (arith, falls, stays)
repairs_fall program was now false night to units shortage whole done at =
    let some = shortage.some_units in
    let nights = length program.rooms in
    let falls = rises_fall (lack_at false was program.rooms) (lack_at false now program.rooms) night to units nights
    (shortage_cut program was now false night to units shortage whole done at) (omega (arith, shortage.some_night, shortage.in_range)) in
    let stays = rises_stay (lack_at true was program.rooms) (lack_at true now program.rooms) nights
    (other_stays program was now false true night to units (λ has wants less. omega (arith, less, some)) shortage at) in
    omega (arith, falls, stays)

-- without rooms there are as many repairs as the rooms rise by
pub repairs_from_none : (was wanted : List ℕ) → ((n : ℕ) → slice_index was n ≡ 0) → repairs was wanted ≤ rises wanted
repairs_from_none was wanted none =
    let many = sum_below-le (rise_of (lack_at true was wanted)) (rise_at wanted) (length wanted) (λ k h. rise_is k) in
    let few = sum_below-le (rise_of (lack_at false was wanted)) (λ _. 0) (length wanted) (λ k h. omega (arith, none k)) in
    omega (arith, many, few, sum_below-zero (length wanted))
  where
    rise_is : (k : ℕ) → rise_of (lack_at true was wanted) k ≤ rise_at wanted k
    rise_is zero = omega (arith, none 0)
    rise_is (suc k) = omega (arith, none (suc k), none k)

-- the number before the next place
pub prior_next : (f : ℕ → ℕ) (n : ℕ) → prior f (n + 1) ≡ f n
prior_next f n = let next : n + 1 ≡ suc n = omega arith in ap (prior f) next

-- a sum with one number more
pub sum_next : (f : ℕ → ℕ) (n : ℕ) → sum_below f (n + 1) ≡ sum_below f n + f n
sum_next f n = let next : n + 1 ≡ suc n = omega arith in ap (sum_below f) next

-- searches behind searches, counted from the first on
pub searches_further : (a b c s t u m n : ℕ) → CountsSearches a b s t m → CountsSearches b c t u n → CountsSearches a c s u (m + n)
searches_further a b c s t u m n first second = (
  (omega (arith, first.0.0, second.0.0), omega (arith, first.0.1, second.0.1)),
  (omega (arith, first.0.0, second.0.0, first.1.0, second.1.0), omega (arith, first.0.0, second.0.0, first.1.1, second.1.1)),
)

-- so many at most, and so no more than a greater number
pub searches_within : (a b s t m n : ℕ) → CountsSearches a b s t m → m ≤ n → CountsSearches a b s t n
searches_within a b s t m n counts less = ((counts.0.0, omega (arith, counts.0.1, less)), counts.1)
