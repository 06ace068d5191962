-- The problem that four numbers make: the same rooms on every night, and stays that are drawn.
use Rattle.std.specs.Prelude.{ℕ, zero, suc, ◌+◌, ◌-◌, ◌*◌, ◌%◌, ◌<◌, ◌≤◌, min, map, replicate}
use Rattle.std.specs.List.{range_with_len}
use Rattle.bp_types.specs.declared.stay.Stay.{Stay}
use Rattle.bp_types.specs.Program.{Program}
use Rattle.bp_types.specs.Spans.{IsSpanWithin}

-- the state after one more draw
abbrev pub next : ℕ → ℕ
next x = 16807 * x % 2147483647

-- the state after so many draws
abbrev pub state_after : ℕ → ℕ → ℕ
state_after seed zero = seed + 1
state_after seed (suc draws) = next (state_after seed draws)

-- the stay of the four draws that follow a state, in a hotel of so many nights
abbrev pub drawn_stay : ℕ → ℕ → Stay
drawn_stay nights x =
    let first = next x in
    let second = next first in
    let third = next second in
    let fourth = next third in
    let from = first % nights in
    let length = 1 + second % min 7 (nights - from) in
    record { span = record { from = from; to = from + length }; rate = length * (5000 + third % 10000); forecast = fourth % 20 }

-- a stay as it is drawn: within the nights, and of a rate and a forecast far below the limits
pub record IsSmallStay (nights : ℕ) (s : Stay) : Type 0 where
  pub span : IsSpanWithin nights s.span
  pub some_rate : 1 ≤ s.rate
  pub rate : s.rate ≤ 104993
  pub forecast : s.forecast < 20

-- the stay of this number
abbrev pub stay_drawn : ℕ → ℕ → ℕ → Stay
stay_drawn seed nights j = drawn_stay nights (state_after seed (4 * j))

-- the problem of a seed, so many nights of so many rooms, and so many stays
abbrev pub demo_of : ℕ → ℕ → ℕ → ℕ → Program
demo_of seed nights rooms stays =
    record { rooms = replicate nights rooms; stays = map (stay_drawn seed nights) (range_with_len 0 stays) }
