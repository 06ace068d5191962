-- What is answered to a list of changes.
use Rattle.std.specs.Prelude.{◌≡◌, ℕ, List, Some, None}
use Rattle.bp_types.specs.declared.change.Change.{Change}
use Rattle.bp_types.specs.Program.{Program}
use Rattle.bp_types.specs.Optimum.{IsOptimum, AreLeastPrices}
use Rattle.bp_types.specs.Changes.{changed_by_all}
use Rattle.bp_scenarios.specs.declared.outcome.Outcome.{Outcome}
use Rattle.bp_scenarios.specs.declared.outcome.Outcome.TheVariants.{Solved, Refused}
use Rattle.bp_scenarios.specs.Refused.{first_refused}

-- the optimum and the least prices of a program after changes that the rooms allow
pub record IsSolution (p : Program) (changes : List Change) (value : ℕ) (prices : List ℕ) : Type 0 where
  pub allowed : first_refused 1 p changes ≡ None
  pub optimum : IsOptimum (changed_by_all p changes) value
  pub least : AreLeastPrices (changed_by_all p changes) prices

-- the answer to a list of changes: the optimum and the least prices after them, or the first change that the rooms do
-- not allow
abbrev pub IsOutcome : Program → List Change → Outcome → Type 0
IsOutcome p changes (Solved value prices) = IsSolution p changes value prices
IsOutcome p changes (Refused change) = first_refused 1 p changes ≡ Some change
