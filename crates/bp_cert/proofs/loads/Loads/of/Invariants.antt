use Rattle.std.proofs.Common.{◌≡◌, ℕ, ◌+◌, ◌<◌, length, slice_index}
use Rattle.bp_types.specs.declared.limits.TheConstants.{MOST_NODES}
use Rattle.bp_types.specs.Program.{load}
use Rattle.bp_cert.specs.Loads.{arriving, departing}
use Rattle.bp_cert.proofs.loads.Loads.of.Given as goal

-- the loads of the nights before this one are made, and its own follows from what arrives and departs
abbrev pub invariant-loop-night : goal.invariant-loop-night
invariant-loop-night l = record {
  size : length l.loads ≡ MOST_NODES;
  made : (n : ℕ) → n < l.night → slice_index l.loads n ≡ load l.instance l.sell n;
  moves : load l.instance l.sell l.night + departing l.instance l.sell l.night ≡ l.load + arriving l.instance l.sell l.night;
}
