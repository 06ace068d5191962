use Rattle.std.proofs.Common.{◌≡◌, ℕ, length, Option, Some}
use Rattle.std.specs.Prelude.{slice_get}
use Rattle.bp_sheets.specs.Lengths.{IsLeastLength}
use Rattle.bp_sheets.proofs.lengths.least_lengths.Given as goal

abbrev pub invariant-loop-arrival : goal.invariant-loop-arrival
invariant-loop-arrival l = record {
  so_many : length l.lengths.items ≡ l.arrival;
  each : (arrival : ℕ) (least : Option ℕ) → slice_get l.lengths.items arrival ≡ Some least → IsLeastLength l.instance l.board.certificate.prices arrival least;
}
