use Rattle.std.proofs.Common.{◌≡◌, ℕ, length, subst, arith}
use Rattle.bp_sheets.specs.Lengths.{IsLeastAmong}
use Rattle.bp_sheets.proofs.lengths.least_length.Goals as goal

pub returns : goal.returns
returns c =
    let all : c.loop-stay.stay ≡ length c.args.instance.now.stays = omega arith in
    subst (λ n. IsLeastAmong c.args.instance.now c.args.board.now.certificate.prices n c.args.arrival c.loop-stay.least) all c.loop-stay.invariant
