use Rattle.std.proofs.Common.{refl, arith}
use Rattle.bp_show.proofs.Falls.{fall_to, falls_are, same_vector}
use Rattle.bp_show.proofs.sums.Sums.of_board.Goals as goal

pub sum_board-requires : goal.sum_board-requires
sum_board-requires c = c.position-position.ensures.prices.nights

pub invariant_of-result : goal.invariant_of-result
invariant_of-result c = fall_to c.args.board.now.certificate.prices _ _ c.nights-nights.ensures (let most = c.position-position.ensures.prices.nights in
    omega (arith, most, c.nights-nights.ensures)) c.sum_board.ensures

pub returns : goal.returns
returns c = same_vector _ _ _ _ _ _ refl c.position-position.ensures.value
    (falls_are c.args.board.now.certificate.prices _ _ c.nights-nights.ensures c.sum_board.ensures)
