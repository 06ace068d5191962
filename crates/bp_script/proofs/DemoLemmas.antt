-- The stays of a demo, one after another, and the limits that they keep.
use Rattle.std.proofs.Common.{◌≡◌, ℕ, zero, suc, ◌+◌, ◌-◌, ◌*◌, ◌≤◌, ◌<◌, refl, ap, sym, ◌∙◌, List, [], ◌∷◌, ◌++◌, map, length, arith}
use Rattle.std.specs.Prelude.{min, All, replicate}
use Rattle.std.specs.List.{range_with_len}
use Rattle.std.proofs.Math.Nat.{mul-le-mul_left}
use Rattle.std.proofs.lemmas.List.{length-replicate}
use Rattle.std.proofs.lemmas.List.Elements.{All-replicate, All-weaker}
use Rattle.bp_types.specs.declared.stay.Stay.{Stay}
use Rattle.bp_types.specs.declared.limits.TheConstants.{MOST_NIGHTS, MOST_STAYS, MOST_UNITS, MOST_ROOMS, MOST_RATE, MOST_FORECAST}
use Rattle.bp_types.specs.Limits.{IsWithinLimits}
use Rattle.bp_types.specs.Spans.{IsSpanWithin}
use Rattle.bp_script.specs.Demo.{next, state_after, drawn_stay, stay_drawn, demo_of, IsSmallStay}

-- four draws as they come keep a stay small
pub small_stay : (nights from more part last : ℕ) → from < nights → more < min 7 (nights - from) → part < 10000 → last < 20
    → IsSmallStay nights (record { span = record { from = from; to = from + (1 + more) }; rate = (1 + more) * (5000 + part); forecast = last })
small_stay nights from more part last first second third fourth =
    let most : 5000 + part ≤ 14999 = omega arith in
    record {
      span = (omega arith, omega arith);
      some_rate = omega arith;
      rate = omega (arith, mul-le-mul_left (1 + more) most);
      forecast = fourth;
    }

-- the state after four draws more
pub state-four : (seed n : ℕ) → state_after seed (4 * (n + 1)) ≡ next (next (next (next (state_after seed (4 * n)))))
state-four seed n = let four : 4 * (n + 1) ≡ suc (suc (suc (suc (4 * n)))) = omega arith in ap (state_after seed) four

-- the same rooms on every night, and small stays, keep to the limits
pub demo_within : (nights most : ℕ) (rooms : List ℕ) (stays : List Stay) (few : ℕ) → 1 ≤ nights → nights ≤ MOST_NIGHTS → most ≤ MOST_ROOMS → few ≤ MOST_STAYS
    → rooms ≡ replicate nights most → length stays ≡ few → All (IsSmallStay nights) stays → IsWithinLimits (record { rooms = rooms; stays = stays })
demo_within nights most rooms stays few some many low short same size small =
    let long : length rooms ≡ nights = ap length same ∙ length-replicate nights most in
    record {
      some_night = omega arith;
      nights = omega arith;
      stays = omega arith;
      rooms = rw same (All-replicate (λ r. r ≤ MOST_UNITS) nights most (omega arith));
      spans = rw long (All-weaker (IsSmallStay nights) (λ s. IsSpanWithin nights s.span) (λ s h. h.span) stays small);
      rates = All-weaker (IsSmallStay nights) (λ s. (1 ≤ s.rate) × (s.rate ≤ MOST_RATE)) (λ s h. (h.some_rate, omega (arith, h.rate))) stays small;
      forecasts = All-weaker (IsSmallStay nights) (λ s. s.forecast ≤ MOST_FORECAST) (λ s h. omega (arith, h.forecast)) stays small;
    }
