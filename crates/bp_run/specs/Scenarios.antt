-- `scenarios`: the optimum and the least prices of a problem after each list of changes.
use Rattle.std.specs.Prelude.{ℕ, List}
use Rattle.std.specs.List.{AllZip}
use Rattle.bp_types.specs.declared.change.Change.{Change}
use Rattle.bp_types.specs.Program.{Program}
use Rattle.bp_text.specs.Lines.{text_of}
use Rattle.bp_scenarios.specs.declared.outcome.Outcome.{Outcome}
use Rattle.bp_scenarios.specs.Outcomes.{IsOutcome}
use Rattle.bp_scenarios.specs.Printed.{outcome_lines}
use Rattle.bp_cli.specs.Words.{Word}
use Rattle.bp_inputs.specs.Stages.{Plan, done, ask}
use Rattle.bp_inputs.specs.TextFiles.{problem_file}
use Rattle.bp_inputs.specs.ScenarioFiles.{scenarios_file}
use Rattle.bp_run.specs.Command.{Command}
use Rattle.bp_run.specs.declared.end.Answer.TheVariants.{Foreseen}

-- a problem, and lists of its changes
pub record WhatIfs : Type 0 where
  pub base : Program
  pub lists : List (List Change)

-- a problem, and scenarios of it
abbrev pub scenarios_plan : Word → Word → Plan WhatIfs
scenarios_plan problem changes =
    ask (problem_file problem) (λ p. ask (scenarios_file p changes) (λ lists. done (record { base = p; lists = lists })))

-- the outcome of each list, in their order
abbrev pub AreOutcomes : WhatIfs → List Outcome → Type 0
AreOutcomes g outcomes = AllZip (IsOutcome g.base) g.lists outcomes

-- the command of `scenarios`; whatever its files give is served
abbrev pub scenarios_command : Word → Word → Command
scenarios_command problem changes = record {
  Given = WhatIfs;
  plan = scenarios_plan problem changes;
  Own = List Outcome;
  IsRight = AreOutcomes;
  IsServed = λ g. Unit {0};
  among = Foreseen;
}

-- what is written of outcomes: a line for each, counted from 1
abbrev pub outcomes_said : List Outcome → List ℕ
outcomes_said outcomes = text_of (outcome_lines 1 outcomes)
