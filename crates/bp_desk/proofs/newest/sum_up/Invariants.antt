use Rattle.std.proofs.Common.{◌≡◌, ◌+◌, ◌<◌, length, ℕ}
use Rattle.std.specs.Prelude.{slice_index}
use Rattle.bp_types.specs.Optimum.{price_from}
use Rattle.bp_desk.proofs.newest.sum_up.Given as goal

-- the sums of the nights so far
abbrev pub invariant-loop-night : goal.invariant-loop-night
invariant-loop-night l = (length l.sums ≡ length l.board.certificate.prices + 1) ×
    ((n : ℕ) → n < l.night → slice_index l.sums n ≡ price_from l.board.certificate.prices n)
