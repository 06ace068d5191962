use Rattle.std.proofs.Common.{◌≡◌, ℕ, length, slice_index, Some}
use Rattle.std.specs.Prelude.{slice_get}
use Rattle.bp_sheets.specs.declared.band.Band.{Band}
use Rattle.bp_sheets.specs.Bands.{IsBand}
use Rattle.bp_sheets.proofs.band.bands_of.Given as goal

abbrev pub invariant-loop-night : goal.invariant-loop-night
invariant-loop-night g l = record {
  so_many : length l.bands.items ≡ l.night;
  each : (night : ℕ) (band : Band) → slice_get l.bands.items night ≡ Some band → IsBand l.solver.flow.program (slice_index l.prices night) night band;
}
