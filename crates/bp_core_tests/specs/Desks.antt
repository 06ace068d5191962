-- What the tests know of a book between two calls.
use Rattle.std.specs.Prelude.{ℕ, ◌*◌, ◌≤◌, length}
use Rattle.bp_types.specs.declared.stay.Span.{Span}
use Rattle.bp_types.specs.declared.command.Quoted.{Quoted}
use Rattle.bp_types.specs.Displacement.{IsDisplacement}
use Rattle.bp_types.specs.Claim.{IsCertificateOf}
use Rattle.bp_board.specs.Posted.{Posted}
use Rattle.bp_core.specs.Acting.{Diary}
use Rattle.bp_core.specs.Instance.{instance_at}

-- a board that may be published: its certificate is for the instance at its position
abbrev pub IsBoardFor : Diary → Posted → Type 0
IsBoardFor b board =
    (board.position ≤ length b.history) × IsCertificateOf (instance_at b.house b.history board.position) board.certificate

-- a quote for so many rooms on a span
abbrev pub IsQuoteOf : Diary → Span → ℕ → Quoted → Type 0
IsQuoteOf b span rooms q =
    (q.position ≤ length b.history) × IsDisplacement (instance_at b.house b.history q.position) span (b.house.limits.unit * rooms) q.displacement
