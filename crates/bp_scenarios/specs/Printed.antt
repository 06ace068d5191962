-- The lines that answer scenarios.
use Rattle.std.specs.Prelude.{ℕ, ◌+◌, List, [], ◌∷◌, ◌++◌, codes}
use Rattle.bp_text.specs.Numbers.{spelled}
use Rattle.bp_text.specs.Lines.{Line, numbers_text}
use Rattle.bp_scenarios.specs.declared.outcome.Outcome.{Outcome}
use Rattle.bp_scenarios.specs.declared.outcome.Outcome.TheVariants.{Solved, Refused}

-- `value V prices p0 p1 ..`, or `refused CHANGE`
abbrev pub outcome_text : Outcome → List ℕ
outcome_text (Solved value prices) = (codes " value " ++ spelled value) ++ codes " prices" ++ numbers_text prices
outcome_text (Refused change) = codes " refused " ++ spelled change

-- `scenario I ..`
abbrev pub outcome_line : ℕ → Outcome → Line
outcome_line number outcome = (codes "scenario " ++ spelled number) ++ outcome_text outcome

-- a line for each outcome, from a number on
abbrev pub outcome_lines : ℕ → List Outcome → List Line
outcome_lines number [] = []
outcome_lines number (outcome ∷ outcomes) = outcome_line number outcome ∷ outcome_lines (number + 1) outcomes
