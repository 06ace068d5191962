-- What rooms are worth: to a group, and on one night.
use Rattle.std.specs.Prelude.{◌≡◌, ℕ, ◌+◌, ◌<◌, true, false, length, slice_index}
use Rattle.bp_types.specs.declared.stay.Span.{Span}
use Rattle.bp_types.specs.declared.change.Change.TheVariants.{Rooms}
use Rattle.bp_types.specs.Program.{Program}
use Rattle.bp_types.specs.declared.limits.TheConstants.{MOST_ROOMS}
use Rattle.bp_types.specs.Spans.{IsSpanWithin}
use Rattle.bp_types.specs.Changes.{changed, HasUnits}
use Rattle.bp_types.specs.Optimum.{IsOptimum}

-- the program with so many units fewer on each night of a span
abbrev pub without : Program → Span → ℕ → Program
without p span units = changed p (Rooms span false units)

-- the program with so many units more on each night of a span
abbrev pub with_more : Program → Span → ℕ → Program
with_more p span units = changed p (Rooms span true units)

-- what the optimum loses where so many units are taken from each night of a span
pub record IsDisplacement (p : Program) (span : Span) (units cost : ℕ) : Type 0 where
  pub in_range : IsSpanWithin (length p.rooms) span
  pub has_units : HasUnits p span units
  pub before : ℕ
  pub after : ℕ
  pub optimum : IsOptimum p before
  pub optimum_without : IsOptimum (without p span units) after
  pub difference : before ≡ cost + after

-- one night alone
abbrev pub night_span : ℕ → Span
night_span n = record { from = n; to = n + 1 }

-- what one room more on a night brings, where the night has fewer than a problem may have
pub record IsGain (p : Program) (night gain : ℕ) : Type 0 where
  pub in_range : night < length p.rooms
  pub has_space : slice_index p.rooms night < MOST_ROOMS
  pub before : ℕ
  pub after : ℕ
  pub optimum : IsOptimum p before
  pub optimum_with : IsOptimum (with_more p (night_span night) 1) after
  pub difference : after ≡ before + gain

-- what one room fewer on a night costs
pub record IsLoss (p : Program) (night loss : ℕ) : Type 0 where
  pub in_range : night < length p.rooms
  pub displacement : IsDisplacement p (night_span night) 1 loss
