use Rattle.std.proofs.Common.{slice_index}
use Rattle.bp_types.specs.Program.{load}
use Rattle.bp_cert.specs.Verdicts.{NoneAbove}
use Rattle.bp_cert.proofs.verdict.overfull_night.Given as goal

abbrev pub invariant-loop-night : goal.invariant-loop-night
invariant-loop-night l = NoneAbove (slice_index l.instance.rooms) (load l.instance l.sell) l.night
