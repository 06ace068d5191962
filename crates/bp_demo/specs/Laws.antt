-- Laws over demos.
use Rattle.std.specs.Prelude.{◌≡◌, ℕ, List}
use Rattle.bp_types.specs.House.{Inn}
use Rattle.bp_demo.specs.declared.summary.Summary.{Summary}
use Rattle.bp_demo.specs.Summaries.{IsSummary}
use Rattle.bp_demo.specs.Demos.{IsDemo}

-- a house has one summary: what a first certificate sells does not matter
abbrev pub SummariesAreUnique : Type 0
SummariesAreUnique = (h : Inn) (s t : Summary) → IsSummary h s → IsSummary h t → s ≡ t

-- four numbers have one text
abbrev pub DemosAreUnique : Type 0
DemosAreUnique = (seed nights rooms stays : ℕ) (a b : List ℕ) → IsDemo seed nights rooms stays a → IsDemo seed nights rooms stays b → a ≡ b
