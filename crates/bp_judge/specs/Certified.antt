-- The board of a certificate.
use Rattle.std.specs.Prelude.{◌≡◌, ℕ, Option, Some, None}
use Rattle.std.specs.Arc.{arc_value}
use Rattle.std.specs.declared.sync.Arc.{Arc}
use Rattle.std.specs.declared.alloc.Global.{Global}
use Rattle.bp_types.specs.Claim.{Claim, IsCertificateOf}
use Rattle.bp_types.specs.Program.{Program}
use Rattle.bp_board.specs.declared.board.Board.{Board}

-- the certificate is given and certifies the program, and the board has it for the position; or it does not
abbrev pub IsBoardFor : Program → ℕ → Option Claim → Option (Arc Board Global) → Type 0
IsBoardFor p position given None = (c : Claim) → given ≡ Some c → IsCertificateOf p c → ⊥
IsBoardFor p position given (Some board) =
    (given ≡ Some (arc_value board).certificate) × IsCertificateOf p (arc_value board).certificate × ((arc_value board).position ≡ position)
