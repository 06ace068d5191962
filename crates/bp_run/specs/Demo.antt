-- `demo`: a hotel made of four numbers, and each of its stays booked once.
use Rattle.std.specs.Prelude.{ℕ, ◌<◌, ◌≤◌, List}
use Rattle.bp_types.specs.declared.limits.TheConstants.{MOST_NIGHTS, MOST_ROOMS, MOST_STAYS}
use Rattle.bp_script.specs.declared.generator.TheConstants.{SEEDS}
use Rattle.bp_demo.specs.Demos.{IsDemo}
use Rattle.bp_cli.specs.Tasks.{Task, check, solve, group, judge, desk, replay, report, demo, scenarios, sheet, portfolio}
use Rattle.bp_inputs.specs.Stages.{done}
use Rattle.bp_run.specs.Command.{Command}
use Rattle.bp_run.specs.declared.end.Answer.TheVariants.{Demonstrated}

-- no file, and the text of the demo
abbrev pub demo_command : (seed nights rooms stays : ℕ) → Command
demo_command seed nights rooms stays = record {
  Given = Unit {0};
  plan = done tt;
  Own = List ℕ;
  IsRight = λ g. IsDemo seed nights rooms stays;
  IsServed = λ g. Unit {0};
  among = Demonstrated;
}

-- the numbers of a demo are those that a line may have
pub record AreDemoNumbers (seed nights rooms stays : ℕ) : Type 0 where
  pub small_seed : seed < SEEDS
  pub some_night : 1 ≤ nights
  pub few_nights : nights ≤ MOST_NIGHTS
  pub few_rooms : rooms ≤ MOST_ROOMS
  pub few_stays : stays ≤ MOST_STAYS

-- so they are, where the task is a demo
abbrev pub HasDemoNumbers : Task → Type 0
HasDemoNumbers (check problem certificate) = Unit {0}
HasDemoNumbers (solve problem) = Unit {0}
HasDemoNumbers (group problem from to rooms) = Unit {0}
HasDemoNumbers (judge problem journal) = Unit {0}
HasDemoNumbers (desk names workers) = Unit {0}
HasDemoNumbers (replay names) = Unit {0}
HasDemoNumbers (report names) = Unit {0}
HasDemoNumbers (demo seed nights rooms stays) = AreDemoNumbers seed nights rooms stays
HasDemoNumbers (scenarios problem changes) = Unit {0}
HasDemoNumbers (sheet problem) = Unit {0}
HasDemoNumbers (portfolio list workers) = Unit {0}
