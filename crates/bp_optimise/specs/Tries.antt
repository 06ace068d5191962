-- What becomes of a command of a session, and of one try of it.
use Rattle.std.specs.Prelude.{◌≡◌, ℕ, ◌≤◌, Bool, true, false, [], ◌∷◌, ◌++◌}
use Rattle.bp_types.specs.declared.command.Command.{Command}
use Rattle.bp_types.specs.declared.command.Command.TheVariants.{Book, Group}
use Rattle.bp_core.specs.Lines.{commands, vectors, last_position}
use Rattle.bp_core.specs.Changes.{changes_after}
use Rattle.bp_desk.specs.Passes.{PassState}
use Rattle.bp_optimise.specs.Following.{Optimising, GoesWith}
use Rattle.bp_optimise.specs.Acts.{HasActed, commands_in}
use Rattle.bp_optimise.specs.Sessions.{is_booking}
use Rattle.bp_optimise.specs.declared.tries.Outcome.{Outcome}
use Rattle.bp_optimise.specs.declared.tries.Outcome.TheVariants.{Made, HistoryFull, PublicationsFull, Memory}
use Rattle.bp_optimise.specs.declared.tries.Attempt.{Attempt}
use Rattle.bp_optimise.specs.declared.tries.Attempt.TheVariants.{Ended, Again}

-- a command that needs neither a vector with few changes after it nor a quote
abbrev pub is_plain : Command → Bool
is_plain (Book stay) = false
is_plain (Group span rooms amount) = false
is_plain _ = true

-- the pass has acted, and the optimiser goes with it
pub record GoesOn (least : ℕ) (old new : PassState) (o : Optimising) : Type 0 where
  pub acted : HasActed least old new
  pub goes : GoesWith new.house new.seen o

-- what was seen has as many vectors as there may be
abbrev pub HasAllVectors : PassState → Type 0
HasAllVectors p = vectors p.seen ≡ p.house.limits.publications

-- no command was made
abbrev pub MakesNone : PassState → PassState → Type 0
MakesNone old new = commands_in new.calls ≡ commands_in old.calls

-- what became of a command
abbrev pub IsOutcome : Command → PassState → PassState → Outcome → Type 0
IsOutcome command old new Made = commands_in new.calls ≡ commands_in old.calls ++ command ∷ []
IsOutcome command old new HistoryFull = MakesNone old new × (commands new.seen ≡ new.house.limits.entries)
IsOutcome command old new PublicationsFull =
    MakesNone old new × (is_booking command ≡ true) × HasAllVectors new × (new.house.limits.stale_after ≤ changes_after new.seen (last_position new.seen))
IsOutcome command old new Memory = MakesNone old new

-- what became of one try
abbrev pub IsAttempt : Command → PassState → PassState → Attempt → Type 0
IsAttempt command old new (Ended outcome) = IsOutcome command old new outcome
IsAttempt command old new (Again true) = MakesNone old new × HasAllVectors new
IsAttempt command old new (Again false) = MakesNone old new
