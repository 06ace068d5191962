-- What a busy desk knows of a board that it publishes.
use Rattle.std.specs.Prelude.{◌≤◌, length}
use Rattle.bp_types.specs.Claim.{IsCertificateOf}
use Rattle.bp_board.specs.Posted.{Posted}
use Rattle.bp_core.specs.Acting.{Diary}
use Rattle.bp_core.specs.Instance.{instance_at}

-- a board that may be published: its certificate is for the instance at its position
abbrev pub IsBoardFor : Diary → Posted → Type 0
IsBoardFor b board =
    (board.position ≤ length b.history) × IsCertificateOf (instance_at b.house b.history board.position) board.certificate
