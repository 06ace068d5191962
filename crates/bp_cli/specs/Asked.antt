-- The task that was read of the words, as contracts see it.
use Rattle.std.specs.Prelude.{◌≡◌, List, Option, Result, MatchOption, MatchResult}
use Rattle.bp_cli.specs.declared.error.WordsError.{WordsError}
use Rattle.bp_cli.specs.declared.error.WordsError.TheVariants.{Usage}
use Rattle.bp_cli.specs.Words.{Word}
use Rattle.bp_cli.specs.Tasks.{Task, check, solve, group, judge, desk, replay, report, demo, scenarios, sheet, portfolio, Asks, IsPlain}
use Rattle.bp_cli.specs.declared.task.Task.{Task as ReadTask}
use Rattle.bp_cli.specs.declared.task.Task.TheVariants as read

-- the same task, with the names by their bytes
abbrev pub asked : ReadTask → Task
asked (read.Check problem certificate) = check problem certificate
asked (read.Solve problem) = solve problem
asked (read.Group problem from to rooms) = group problem from to rooms
asked (read.Judge problem journal) = judge problem journal
asked (read.Desk hotel stays forecast bookings script workers) =
    desk (record { hotel = hotel; stays = stays; forecast = forecast; bookings = bookings; last = script }) workers
asked (read.Replay hotel stays forecast bookings journal) =
    replay (record { hotel = hotel; stays = stays; forecast = forecast; bookings = bookings; last = journal })
asked (read.Report hotel stays forecast bookings journal) =
    report (record { hotel = hotel; stays = stays; forecast = forecast; bookings = bookings; last = journal })
asked (read.Demo seed nights rooms stays) = demo seed nights rooms stays
asked (read.Scenarios problem changes) = scenarios problem changes
asked (read.Sheet problem) = sheet problem
asked (read.Portfolio list workers) = portfolio list workers

-- what is read of words: the task that they ask for, or none where they ask for none
abbrev pub IsReadOf : List Word → Option ReadTask → Type 0
IsReadOf words read = MatchOption read (IsPlain words → ⊥) (λ t. Asks words (asked t))

-- the same, where memory may be wanting
abbrev pub IsAnswered : List Word → Result ReadTask WordsError → Type 0
IsAnswered words answer = MatchResult answer (λ t. Asks words (asked t)) (λ e. e ≡ Usage → IsPlain words → ⊥)
