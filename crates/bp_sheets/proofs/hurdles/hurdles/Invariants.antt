use Rattle.std.proofs.Common.{◌≡◌, ◌+◌, map}
use Rattle.std.specs.List.{range_with_len}
use Rattle.bp_types.specs.Program.{price}
use Rattle.bp_sheets.proofs.hurdles.hurdles.Given as goal

abbrev pub invariant-loop-length : goal.invariant-loop-length
invariant-loop-length l =
    l.prices.items ≡ map (λ k. price l.board.certificate.prices (record { from = l.arrival; to = l.arrival + k + 1 })) (range_with_len 0 l.length)
