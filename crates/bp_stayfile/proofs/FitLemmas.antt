-- What the readers of a hotel's files accept breaks no limit of a house.
use Rattle.std.proofs.Common.{◌≡◌, refl, subst, ℕ, ◌≤◌, Bool, true, List, length, get_or, All, Option, Some, None, Ok, arith}
use Rattle.std.specs.List.{find, range_with_len}
use Rattle.std.specs.Option.{option_or, option_map}
use Rattle.std.proofs.lemmas.Bool.{ltb-false, lt-ltb, le-ltb, le-leb, eq-eqb}
use Rattle.std.proofs.lemmas.List.FromFn.{length-map-range_with_len}
use Rattle.bp_types.specs.declared.stay.Stay.{Stay}
use Rattle.bp_types.specs.declared.house.HouseError.{HouseError}
use Rattle.bp_types.specs.declared.refusal.InstanceError.{InstanceError}
use Rattle.bp_types.specs.declared.limits.TheConstants.{MOST_NIGHTS, MOST_ROOMS}
use Rattle.bp_types.specs.Limits.{unless, refusal_above}
use Rattle.bp_types.specs.House.{is_oversold, unless_house, house_refusal}
use Rattle.bp_types.proofs.Firsts.{find-range_none, none_passes}
use Rattle.bp_hotelfile.specs.Season.{Season, IsSeason}
use Rattle.bp_hotelfile.proofs.StepLemmas.{steps_tell}
use Rattle.bp_stayfile.specs.StayList.{StayList, AreStays}
use Rattle.bp_stayfile.specs.Counts.{counts_file}
use Rattle.bp_stayfile.specs.Bookings.{sold_on, sold_by_night, sold_of, unless_overbooked, bookings_file, AreSold}
use Rattle.bp_stayfile.proofs.CodeLemmas.{none_found}

fit_unless : (rooms sold : List ℕ) (night : Option ℕ) (x : List ℕ) → find (is_oversold rooms sold) (range_with_len 0 (length rooms)) ≡ night →
    length sold ≡ length rooms →
    unless_overbooked night sold ≡ Ok x → AreSold rooms x
fit_unless rooms sold None x found one_each e =
    let same : sold ≡ x = (cc) in
    subst (AreSold rooms) same
    (record {
      one_each = one_each;
      fit =
          λ n below. ltb-false (get_or rooms n 0) (get_or sold n 0)
          (none_passes (is_oversold rooms sold) 0 (length rooms) found n (omega arith) (omega (arith, below)));
    })
fit_unless rooms sold (Some night) x found one_each e = absurd (cc)

-- the rooms that a bookings file takes are there
pub bookings_file-tells : (rooms : List ℕ) (list : StayList) (bytes sold : List ℕ) → bookings_file rooms list bytes ≡ Ok sold → AreSold rooms sold
bookings_file-tells rooms list bytes sold e =
    let (counts, read, rest) = steps_tell (counts_file list.codes bytes) (sold_of rooms list.stays) sold e in
    fit_unless rooms (sold_by_night (length rooms) counts list.stays) _ sold refl (length-map-range_with_len (sold_on counts list.stays) 0 (length rooms)) rest

none_or : {X : Type 0} (a b : Option X) → a ≡ None → b ≡ None → option_or a b ≡ None
none_or a b first second = rw (first, second) refl

none_of : {X Y : Type 0} (f : X → Y) (o : Option X) → o ≡ None → option_map f o ≡ None
none_of f o none = rw none refl

unless_none : (b : Bool) (e : InstanceError) → b ≡ true → unless b e ≡ None
unless_none b e passed = rw passed refl

unless_house_none : (b : Bool) (e : HouseError) → b ≡ true → unless_house b e ≡ None
unless_house_none b e passed = rw passed refl

-- rooms and stays that keep to their limits make an instance
program_fits : (rooms : List ℕ) (stays : List Stay) → 1 ≤ length rooms → length rooms ≤ MOST_NIGHTS → All (λ r. r ≤ MOST_ROOMS) rooms →
    AreStays (length rooms) stays → refusal_above MOST_ROOMS rooms stays ≡ None
program_fits rooms stays some few small are =
    none_or _ _ (unless_none _ _ (le-leb _ _ some))
    (none_or _ _ (unless_none _ _ (le-leb _ _ few))
    (none_or _ _ (unless_none _ _ (le-leb _ _ are.few))
    (none_or _ _ (none_of _ _ (none_found _ rooms (λ k d h. le-ltb _ _ (small k d h))))
    (none_or _ _ (none_of _ _ (none_found _ stays (λ k d h. rw (lt-ltb _ _ (are.spans k d h).0, le-leb _ _ (are.spans k d h).1) refl)))
    (none_or _ _ (none_of _ _ (none_found _ stays (λ k d h. rw (le-leb _ _ (are.rates k d h).0, le-leb _ _ (are.rates k d h).1) refl)))
    (none_of _ _ (none_found _ stays (λ k d h. le-ltb _ _ (are.forecasts k d h)))))))))

pub house_fits : (season : Season) (stays : List Stay) (sold : List ℕ) → IsSeason season → AreStays (length season.rooms) stays → AreSold season.rooms sold →
    house_refusal season.rooms sold stays season.limits ≡ None
house_fits season stays sold is are fit =
    none_or _ _ (none_of _ _ (program_fits season.rooms stays is.some_night is.nights is.rooms are))
    (none_or _ _
    (none_or _ _ (unless_house_none _ _ (eq-eqb _ _ fit.one_each))
    (none_of _ _ (find-range_none (is_oversold season.rooms sold) 0 (length season.rooms)
    (λ k above below. le-ltb (get_or season.rooms k 0) (get_or sold k 0) (fit.fit k (omega (arith, below)))))))
    (none_or _ _ (unless_house_none _ _ is.stale_after)
    (none_or _ _ (unless_house_none _ _ is.entries)
    (none_or _ _ (unless_house_none _ _ is.publications) (unless_house_none _ _ is.unit)))))
