use Rattle.std.proofs.Common.{slice_index}
use Rattle.bp_types.specs.declared.limits.TheConstants.{MOST_PRICE}
use Rattle.bp_cert.specs.Verdicts.{NoneAbove}
use Rattle.bp_cert.proofs.verdict.price_too_great.Given as goal

abbrev pub invariant-loop-night : goal.invariant-loop-night
invariant-loop-night l = NoneAbove (λ _. MOST_PRICE) (slice_index l.prices) l.night
