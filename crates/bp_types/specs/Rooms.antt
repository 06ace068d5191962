-- Rooms that change by as much on each night of a span.
use Rattle.std.specs.Prelude.{ℕ, ◌+◌, ◌-◌, Bool, if◌then◌else◌, List, length, map, slice_index}
use Rattle.std.specs.List.{range_with_len}
use Rattle.bp_types.specs.declared.stay.Span.{Span}
use Rattle.bp_types.specs.Program.{covers}

-- so many units more, or fewer
abbrev pub moved : ℕ → Bool → ℕ → ℕ
moved rooms up units = if up then rooms + units else rooms - units

-- the rooms of night n where a span gets so many units more, or fewer
abbrev pub room_moved : List ℕ → Span → Bool → ℕ → ℕ → ℕ
room_moved rooms span up units n = if covers span n then moved (slice_index rooms n) up units else slice_index rooms n

-- so many units more, or fewer, on each night of a span
abbrev pub rooms_moved : List ℕ → Span → Bool → ℕ → List ℕ
rooms_moved rooms span up units = map (room_moved rooms span up units) (range_with_len 0 (length rooms))
