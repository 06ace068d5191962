-- What a submitted certificate does, and what it is answered.
use Rattle.std.specs.Prelude.{◌≡◌, ℕ, ◌<◌, ◌≤◌, Bool, true, false, List, ◌++◌, All, length, Result, Ok, Err}
use Rattle.std.specs.Arc.{arc_value}
use Rattle.bp_types.specs.Program.{Program}
use Rattle.bp_types.specs.Claim.{Claim, IsCertificateOf}
use Rattle.bp_cert.specs.declared.verdict.Verdict.{Verdict}
use Rattle.bp_cert.specs.declared.verdict.Verdict.TheVariants.{Optimal}
use Rattle.bp_cert.specs.Verdicts.{IsVerdict}
use Rattle.bp_board.specs.Posted.{Posted}
use Rattle.bp_turn.specs.Prefix.{IsPrefix}
use Rattle.bp_core.specs.declared.line.Reply.TheVariants.{Vector}
use Rattle.bp_core.specs.declared.call.Call.{Call}
use Rattle.bp_core.specs.declared.call.Call.TheVariants.{Publish}
use Rattle.bp_core.specs.declared.call.Answer.{Answer}
use Rattle.bp_core.specs.declared.call.Answer.TheVariants.{Logged, Superseded as Older, PublicationsFull as NoneLeft}
use Rattle.bp_core.specs.Lines.{calls}
use Rattle.bp_core.specs.Legal.{IsLegal}
use Rattle.bp_core.specs.Instance.{instance_at}
use Rattle.bp_desk.specs.declared.submitting.SubmitError.{SubmitError}
use Rattle.bp_desk.specs.declared.submitting.SubmitError.TheVariants.{Position, Memory, NotOptimal, Superseded, PublicationsFull}
use Rattle.bp_desk.specs.Passes.{PassState}
use Rattle.bp_desk.specs.Calling.{HasRead, IsCalled, AddsCall}

-- some turns that only read, or none: each found no more than the pass has seen afterwards, of which nothing since is
-- its own
pub record HasReadOn (old new : PassState) : Type 0 where
  pub more : List ℕ
  pub begins : IsPrefix old.seen new.seen
  pub pass : new ≡ record old { seen = new.seen; turns = old.turns ++ more }
  pub lengths : All (λ t. t ≤ length new.seen) more
  pub own : calls new.seen old.caller ≡ old.calls
  pub legal : IsLegal old.house new.seen

-- what a call with several turns keeps of its pass: it has seen a legal history that begins with all that it had seen,
-- and has under its number just its own calls; nothing else but its turns is another
pub record HasGoneOn (old new : PassState) : Type 0 where
  pub begins : IsPrefix old.seen new.seen
  pub pass : new ≡ record old { seen = new.seen; calls = new.calls; turns = new.turns }
  pub own : calls new.seen old.caller ≡ new.calls
  pub legal : IsLegal old.house new.seen

-- the verdict is that the certificate is optimal
abbrev pub is_optimal : Verdict → Bool
is_optimal (Optimal value) = true
is_optimal _ = false

-- what the certificate is refused for before it is offered: want of memory, or a verdict that is not Optimal
abbrev pub IsUnfit : Program → Claim → SubmitError → Type 0
IsUnfit p certificate (NotOptimal verdict) = IsVerdict p certificate verdict × (is_optimal verdict ≡ false)
IsUnfit p certificate Memory = Unit {0}
IsUnfit p certificate _ = ⊥

-- the call publishes this vector, where so many changes are asked for
abbrev pub Publishes : Call → Posted → ℕ → Type 0
Publishes (Publish board n) posted least = (arc_value board ≡ posted) × (n ≡ least)
Publishes _ posted least = ⊥

-- the certificate was found right for the instance at its position, and was published for one change, with this answer
pub record IsPublished (first new : PassState) (position : ℕ) (certificate : Claim) (answer : Answer) : Type 0 where
  pub middle : PassState
  pub read_on : HasReadOn first middle
  pub certifies : IsCertificateOf (instance_at first.house first.seen position) certificate
  pub call : Call
  pub publishes : Publishes call (record { position = position; certificate = certificate }) 1
  pub called : IsCalled middle new call answer
  pub adds : AddsCall middle new call answer

-- how a submission goes on after its first turn
abbrev pub GoesOn : PassState → PassState → ℕ → Claim → Result ℕ SubmitError → Type 0
GoesOn first new position certificate (Ok number) =
    (position ≤ length first.seen) × IsPublished first new position certificate (Logged (Vector number))
GoesOn first new position certificate (Err (Position n)) = (n < position) × (n ≡ length first.seen) × (new ≡ first)
GoesOn first new position certificate (Err Memory) = (position ≤ length first.seen) × HasReadOn first new
GoesOn first new position certificate (Err (NotOptimal verdict)) =
    (position ≤ length first.seen) × HasReadOn first new × IsUnfit (instance_at first.house first.seen position) certificate (NotOptimal verdict)
GoesOn first new position certificate (Err (Superseded last changes)) =
    (position ≤ length first.seen) × IsPublished first new position certificate (Older last changes)
GoesOn first new position certificate (Err PublicationsFull) =
    (position ≤ length first.seen) × IsPublished first new position certificate NoneLeft

-- a certificate was submitted for a position: a first turn that only read, and what came of it
pub record IsSubmitted (old new : PassState) (position : ℕ) (certificate : Claim) (result : Result ℕ SubmitError) : Type 0 where
  pub gone_on : HasGoneOn old new
  pub first : PassState
  pub looked : HasRead old first
  pub goes_on : GoesOn first new position certificate result
