-- The text of scenarios: each begins with a line of its own, and its changes follow, one a line.
use Rattle.std.specs.Prelude.{◌≡◌, ℕ, ◌≤◌, Bool, true, false, List, [], ◌∷◌, ◌++◌, map, length, All, codes}
use Rattle.std.specs.List.{flat_map}
use Rattle.bp_types.specs.declared.change.Change.{Change}
use Rattle.bp_types.specs.declared.change.Change.TheVariants.{Rooms, Demand, Rate}
use Rattle.bp_types.specs.declared.limits.TheConstants.{MOST_SCENARIOS, MOST_CHANGES}
use Rattle.bp_text.specs.Numbers.{spelled}
use Rattle.bp_text.specs.Lines.{Line}
use Rattle.bp_text.specs.Words.{Word, joined}
use Rattle.bp_scenarios.specs.declared.row.Row.{Row}
use Rattle.bp_scenarios.specs.declared.row.Row.TheVariants.{Opens, Makes}

-- whether there are more rooms or fewer
abbrev pub direction : Bool → Word
direction true = codes "up"
direction false = codes "down"

-- the first word of a change
abbrev pub change_word : Change → Word
change_word (Rooms span up units) = codes "rooms"
change_word (Demand stay value) = codes "demand"
change_word (Rate stay value) = codes "rate"

-- and the words behind it
abbrev pub change_words : Change → List Word
change_words (Rooms span up units) = spelled span.from ∷ spelled span.to ∷ direction up ∷ spelled units ∷ []
change_words (Demand stay value) = spelled stay ∷ spelled value ∷ []
change_words (Rate stay value) = spelled stay ∷ spelled value ∷ []

-- the line of a change
abbrev pub change_line : Change → Line
change_line c = joined (change_word c) (change_words c)

-- the line of a row: that a scenario begins, or a change of it
abbrev pub row_line : Row → Line
row_line Opens = codes "scenario"
row_line (Makes c) = change_line c

-- the rows of scenarios
abbrev pub rows : List (List Change) → List Row
rows [] = []
rows (changes ∷ lists) = Opens ∷ (map Makes changes ++ rows lists)

-- the lines of a text of scenarios
abbrev pub scenario_lines : List (List Change) → List Line
scenario_lines lists = codes "scenarios 1" ∷ (map row_line (rows lists) ++ codes "end" ∷ [])

-- the changes of all scenarios
abbrev pub all_changes : List (List Change) → List Change
all_changes lists = flat_map (λ changes. changes) lists

-- not too many scenarios, nor too many changes in all of them together, and each change within its limits
pub record AreWithin (Within : Change → Type 0) (lists : List (List Change)) : Type 0 where
  pub scenarios : length lists ≤ MOST_SCENARIOS
  pub changes : length (all_changes lists) ≤ MOST_CHANGES
  pub each : All Within (all_changes lists)
