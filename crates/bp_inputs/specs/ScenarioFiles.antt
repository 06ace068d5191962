-- The file of scenarios, which rests on the nights and the stays of their problem.
use Rattle.std.specs.Prelude.{List, Ok}
use Rattle.bp_types.specs.declared.limits.TheConstants.{MOST_FILE_BYTES}
use Rattle.bp_types.specs.declared.change.Change.{Change}
use Rattle.bp_types.specs.Program.{Program}
use Rattle.bp_text.specs.Reading.{IsText}
use Rattle.bp_scenarios.specs.Refused.{IsChangeWithin}
use Rattle.bp_scenarios.specs.Texts.{scenario_lines, AreWithin}
use Rattle.bp_text.specs.Words.{Word}
use Rattle.bp_inputs.specs.Stages.{Stage}
use Rattle.bp_inputs.specs.TextFiles.{IsNoText}

-- scenarios of a problem, each a list of its changes
abbrev pub scenarios_file : Program → Word → Stage
scenarios_file p name = record {
  name = name;
  most = MOST_FILE_BYTES;
  Value = List (List Change);
  Accepts = λ bytes lists. IsText scenario_lines (AreWithin (IsChangeWithin p)) bytes (Ok lists);
  Refuses = IsNoText scenario_lines (AreWithin (IsChangeWithin p));
}
