-- What a session is to do, and what it has done.
use Rattle.std.specs.Prelude.{◌≡◌, ℕ, ◌<◌, ◌≤◌, Bool, true, false, List, [], ◌∷◌, ◌++◌, length, take, slice_index_or, All, IsTrue}
use Rattle.bp_types.specs.declared.command.Command.{Command}
use Rattle.bp_types.specs.declared.command.Command.TheVariants.{Book}
use Rattle.bp_types.specs.House.{Inn}
use Rattle.bp_core.specs.declared.call.Call.TheVariants.{Leave}
use Rattle.bp_core.specs.declared.line.Reply.TheVariants.{Done}
use Rattle.bp_core.specs.Lines.{History, commands, vectors, last_position}
use Rattle.bp_core.specs.Changes.{changes_after}
use Rattle.bp_core.specs.Acting.{line_of}
use Rattle.bp_core.specs.Legal.{is_command_in_range}
use Rattle.bp_desk.specs.Passes.{PassState}
use Rattle.bp_optimise.specs.Acts.{HasActed, commands_in}
use Rattle.bp_optimise.specs.declared.sessions.Stop.{Stop}
use Rattle.bp_optimise.specs.declared.sessions.Stop.TheVariants.{Finished, HistoryFull as NoEntryLeft, PublicationsFull as NoVectorLeft, Memory as NoMemory}

-- the numbers of all commands are in range
abbrev pub AreInRange : Inn → List Command → Type 0
AreInRange house cs = All (λ (c : Command). IsTrue (is_command_in_range house c)) cs

-- a command that needs a vector with few changes after it
abbrev pub is_booking : Command → Bool
is_booking (Book stay) = true
is_booking _ = false

-- why a session made so many of its commands and no more, by the history that it has seen
abbrev pub IsStop : Inn → List Command → History → ℕ → Stop → Type 0
IsStop house cs H done Finished = done ≡ length cs
IsStop house cs H done NoEntryLeft = (done < length cs) × (commands H ≡ house.limits.entries)
IsStop house cs H done NoVectorLeft =
    (done < length cs) × ((c : Command) → is_booking (slice_index_or cs done c) ≡ true) × (vectors H ≡ house.limits.publications)
    × (house.limits.stale_after ≤ changes_after H (last_position H))
IsStop house cs H done NoMemory = done < length cs

-- a session made its first commands, as many as it says and no other, and left
pub record IsSession (lead : ℕ) (cs : List Command) (pass left : PassState) (done : ℕ) (stop : Stop) : Type 0 where
  pub acted : HasActed lead pass left
  pub made : commands_in left.calls ≡ commands_in pass.calls ++ take done cs
  pub earlier : History
  pub last : left.calls ≡ earlier ++ line_of pass.caller Leave Done ∷ []
  pub stops : IsStop left.house cs left.seen done stop
