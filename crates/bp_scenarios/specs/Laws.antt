-- Laws over scenarios.
use Rattle.std.specs.Prelude.{◌≡◌, List}
use Rattle.bp_types.specs.declared.change.Change.{Change}
use Rattle.bp_types.specs.Program.{Program}
use Rattle.bp_text.specs.Laws.{IsReadOneWay}
use Rattle.bp_scenarios.specs.declared.outcome.Outcome.{Outcome}
use Rattle.bp_scenarios.specs.Refused.{IsChangeWithin}
use Rattle.bp_scenarios.specs.Outcomes.{IsOutcome}
use Rattle.bp_scenarios.specs.Texts.{scenario_lines, AreWithin}

-- a list of changes has one answer
abbrev pub OutcomeIsUnique : Type 0
OutcomeIsUnique = (p : Program) (changes : List Change) (a b : Outcome) → IsOutcome p changes a → IsOutcome p changes b → a ≡ b

-- bytes are read as scenarios of a program in one way
abbrev pub ScenariosAreReadOneWay : Type 0
ScenariosAreReadOneWay = (p : Program) → IsReadOneWay scenario_lines (AreWithin (IsChangeWithin p))
