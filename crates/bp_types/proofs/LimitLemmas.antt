-- What it says that no limit is broken.
use Rattle.std.proofs.Common.{◌≡◌, ℕ, ◌<◌, ◌≤◌, refl, arith, Bool, true, false, not, nat_lt, nat_le, List, length, get_or, Option, Some, None, inl, inr}
use Rattle.std.specs.List.{position, position_or_len, All}
use Rattle.std.specs.Option.{option_or, option_map}
use Rattle.std.proofs.lemmas.List.Sums.{fails_before_first}
use Rattle.std.proofs.lemmas.Bool.{cases_Bool, ltb-false, ltb-true, leb-true, and_parts, not-false}
use Rattle.bp_types.specs.declared.stay.Stay.{Stay}
use Rattle.bp_types.specs.declared.refusal.InstanceError.{InstanceError}
use Rattle.bp_types.specs.declared.limits.TheConstants.{MOST_UNITS, MOST_RATE, MOST_FORECAST}
use Rattle.bp_types.specs.Spans.{is_within}
use Rattle.bp_types.specs.Limits.{refusal_above, unless, IsWithinLimits, is_rate}

-- no element passes the test
none_pass : {X : Type 0} (p : X → Bool) (xs : List X) → position p xs ≡ None → All (λ x. p x ≡ false) xs
none_pass p xs none k d h =
    elim (cases_Bool (nat_lt (position_or_len p xs) (length xs))) [
      | inl some ↦ absurd (let e : Some (position_or_len p xs) ≡ None = rw some at none in (cc))
      | inr past ↦ fails_before_first p xs k d (omega (arith, ltb-false _ _ past))
    ]

pub or_none : {X : Type 0} (a b : Option X) → option_or a b ≡ None → (a ≡ None) × (b ≡ None)
or_none None b e = (refl, e)
or_none (Some x) b e = (cc)

pub map_none : {X Y : Type 0} (f : X → Y) (a : Option X) → option_map f a ≡ None → a ≡ None
map_none f None e = refl
map_none f (Some x) e = (cc)

unless_none : (b : Bool) (e : InstanceError) → unless b e ≡ None → b ≡ true
unless_none true e h = refl
unless_none false e h = (cc)

spans_from_test : (nights : ℕ) (stays : List Stay) → All (λ s. not (is_within nights s.span) ≡ false) stays →
    All (λ s. (s.span.from < s.span.to) × (s.span.to ≤ nights)) stays
spans_from_test nights stays h k d g =
    let s : Stay = get_or stays k d in
    let parts = and_parts (nat_lt s.span.from s.span.to) (nat_le s.span.to nights) (not-false _ (h k d g)) in
    (ltb-true _ _ parts.0, leb-true _ _ parts.1)

rates_from_test : (stays : List Stay) → All (λ s. not (is_rate s.rate) ≡ false) stays → All (λ s. (1 ≤ s.rate) × (s.rate ≤ MOST_RATE)) stays
rates_from_test stays h k d g =
    let s : Stay = get_or stays k d in
    let parts = and_parts (nat_le 1 s.rate) (nat_le s.rate MOST_RATE) (not-false _ (h k d g)) in
    (leb-true _ _ parts.0, leb-true _ _ parts.1)

below_more_is_below : (a b : ℕ) (xs : List ℕ) → a ≤ b → All (λ r. r ≤ a) xs → All (λ r. r ≤ b) xs
below_more_is_below a b xs h each k x g = omega (arith, each k x g)

pub limits_from_no_refusal : (most : ℕ) (rooms : List ℕ) (stays : List Stay) → most ≤ MOST_UNITS → refusal_above most rooms stays ≡ None →
    IsWithinLimits (record { rooms = rooms; stays = stays }) × All (λ r. r ≤ most) rooms
limits_from_no_refusal most rooms stays small none =
    let a = or_none _ _ none in
    let b = or_none _ _ a.1 in
    let c = or_none _ _ b.1 in
    let d = or_none _ _ c.1 in
    let e = or_none _ _ d.1 in
    let f = or_none _ _ e.1 in
    let each : All (λ r. r ≤ most) rooms = λ k x h. ltb-false _ _ (none_pass (λ r. nat_lt most r) rooms (map_none _ _ d.0) k x h) in (
      record {
        some_night = leb-true _ _ (unless_none _ _ a.0);
        nights = leb-true _ _ (unless_none _ _ b.0);
        stays = leb-true _ _ (unless_none _ _ c.0);
        rooms = below_more_is_below most MOST_UNITS rooms small each;
        spans = spans_from_test (length rooms) stays (none_pass (λ s. not (is_within (length rooms) s.span)) stays (map_none _ _ e.0));
        rates = rates_from_test stays (none_pass (λ s. not (is_rate s.rate)) stays (map_none _ _ f.0));
        forecasts = λ k x h. ltb-false _ _ (none_pass (λ s. nat_lt MOST_FORECAST s.forecast) stays (map_none _ _ f.1) k x h);
      },
      each,
    )
