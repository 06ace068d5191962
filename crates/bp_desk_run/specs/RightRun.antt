-- What is said of the closed desk of one house: the page to read of a line `desk`, and of each hotel of a portfolio.
use Rattle.std.specs.Prelude.{◌≡◌, ℕ, ◌+◌, ◌/◌, ◌≤◌, true, false, List}
use Rattle.bp_types.specs.House.{Inn}
use Rattle.bp_types.specs.declared.command.Command.{Command}
use Rattle.bp_core.specs.Lines.{vectors}
use Rattle.bp_desk_run.specs.DeskRun.{IsDeskRun, IsComplete, IsClosed, IsCut, HasRoomFor, all_commands, lead_of}
use Rattle.bp_desk_run.specs.declared.callers.Ran.{Ran}

-- a house, and what each session asks of its desk
pub record Staged : Type 0 where
  pub house : Inn
  pub scripts : List (List Command)

-- whatever the interleaving was, what is said of the closed desk, with H its one history
pub record IsRightRun (workers : ℕ) (g : Staged) (ran : Ran) : Type 0 where
  -- H is a desk run of the house and the script that were read
  pub run : IsDeskRun g.house g.scripts workers ran.book.history
  -- status 0: every session made all of its commands, and no change stands after the last vector's position
  pub whole : ran.whole ≡ true → IsComplete g.scripts ran.book.history × IsClosed ran.book.history
  -- status 7: the house allowed no entry more, or no vector more
  pub cut : ran.whole ≡ false → IsCut g.house g.scripts ran.book.history
  -- two vectors at most, and one more for every `lead` commands of the script
  pub few_vectors : vectors ran.book.history ≤ 2 + all_commands g.scripts / lead_of g.house
  -- a house with room for the script is not cut
  pub room : HasRoomFor g.house (all_commands g.scripts) → ran.whole ≡ true
