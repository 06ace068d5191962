-- Spans of nights.
use Rattle.std.specs.Prelude.{ℕ, ◌-◌, ◌≤◌, ◌<◌, Bool, ◌&&◌, nat_le, nat_lt, List, Option}
use Rattle.std.specs.List.{find, range_with_len}
use Rattle.bp_types.specs.declared.stay.Span.{Span}

-- a span of one night at least, within so many nights
abbrev pub IsSpanWithin : ℕ → Span → Type 0
IsSpanWithin nights s = (s.from < s.to) × (s.to ≤ nights)

-- the same, as a test
abbrev pub is_within : ℕ → Span → Bool
is_within nights s = nat_lt s.from s.to && nat_le s.to nights

-- the nights of a span, in order
abbrev pub nights_of : Span → List ℕ
nights_of s = range_with_len s.from (s.to - s.from)

-- the first night of a span on which less is left than is asked for
abbrev pub first_short : (ℕ → ℕ) → Span → ℕ → Option ℕ
first_short left s asked = find (λ n. nat_lt (left n) asked) (nights_of s)
