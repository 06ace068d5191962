-- What an optimiser quotes.
use Rattle.std.specs.Prelude.{◌≡◌, ℕ, ◌≤◌, ◌<◌, slice_index, Option, Some, None}
use Rattle.bp_types.specs.declared.stay.Span.{Span}
use Rattle.bp_types.specs.declared.command.Quoted.{Quoted}
use Rattle.bp_types.specs.Program.{Program}
use Rattle.bp_types.specs.Displacement.{IsDisplacement}

-- a night of the span has fewer units
abbrev pub LacksUnits : Program → Span → ℕ → Type 0
LacksUnits p span units = (n : ℕ) × (span.from ≤ n) × (n < span.to) × (slice_index p.rooms n < units)

-- a quote is of this program, position, span and number of units; there is none only where a night lacks them
abbrev pub IsQuoteOf : Program → ℕ → Span → ℕ → Option Quoted → Type 0
IsQuoteOf p position span units (Some q) = (q.position ≡ position) × IsDisplacement p span units q.displacement
IsQuoteOf p position span units None = LacksUnits p span units
