use Rattle.std.proofs.Common.{◌≡◌, length, arith, ap, subst}
use Rattle.std.specs.Arc.{arc_value}
use Rattle.bp_types.specs.Claim.{IsCertificateOf}
use Rattle.bp_types.specs.House.{Inn}
use Rattle.bp_board.specs.Posted.{Posted}
use Rattle.bp_show_tests.proofs.Lobbies.{opened_nights}
use Rattle.bp_show_tests.proofs.evening.evening.Goals as goal

pub show_while_they_look-requires-clause-nights : goal.show_while_they_look-requires-clause-nights
show_while_they_look-requires-clause-nights g c κs within =
    let session = ap (λ (h : Inn). length h.rooms) c.in_ok-desk.ensures.house in
    let opened = opened_nights c.args.house _
    (subst (λ p. IsCertificateOf p (arc_value c.in_ok-board.board).certificate) c.in_ok-start.ensures c.in_ok-board.ensures.1) in
    let board = ap (λ (b : Posted). length b.certificate.prices) c.deref.ensures in
    let screen = c.in_ok-screen.ensures.nights in
    omega (arith, session, opened, board, screen)
