-- How a row is read, behind so many scenarios with so many changes in all.
use Rattle.std.specs.Prelude.{◌≡◌, ◌≢◌, ◌⊎◌, ℕ, ◌<◌, true, false, Bool, List, [], ◌∷◌, ◌++◌, map, codes, Option, Some, None, Result, Ok, Err, MatchBool}
use Rattle.bp_types.specs.declared.change.Change.{Change}
use Rattle.bp_types.specs.declared.limits.TheConstants.{MOST_SCENARIOS, MOST_CHANGES}
use Rattle.bp_text.specs.declared.text_error.TextError.{TextError}
use Rattle.bp_text.specs.Lines.{Line, Given, GivesLine}
use Rattle.bp_text.specs.Places.{IsRefusedLine}
use Rattle.bp_text.specs.Reading.{IsReading, GivesLines}
use Rattle.bp_text.specs.Words.{Word}
use Rattle.bp_scenarios.specs.declared.row.Row.{Row}
use Rattle.bp_scenarios.specs.declared.row.Row.TheVariants.{Opens, Makes}
use Rattle.bp_scenarios.specs.declared.told.Told.{Told}
use Rattle.bp_scenarios.specs.declared.told.Found.{Found}
use Rattle.bp_scenarios.specs.declared.told.Found.TheVariants.{Bad, Great, Whole}
use Rattle.bp_scenarios.specs.Refused.{IsChangeOf}
use Rattle.bp_scenarios.specs.Texts.{change_word, change_words, change_line, row_line, rows, scenario_lines, AreWithin}

-- the changes among rows
abbrev pub makes : List Row → List Change
makes [] = []
makes (Opens ∷ more) = makes more
makes (Makes c ∷ more) = c ∷ makes more

-- the first line
abbrev pub IsFirst : Line → Type 0
IsFirst line = line ≡ codes "scenarios 1"

-- any line, for the first one has no number above a limit
abbrev pub IsAnyLine : Line → Type 0
IsAnyLine line = Unit {0}

-- this very change was told and is within its limits, or it is outside them
abbrev pub IsTold : (Change → Type 0) → Change → Told → Type 0
IsTold Within c t = MatchBool t.great (Within c → ⊥) (Within c × (t.change ≡ c))

-- behind this word the words of a change stand, or they do not
abbrev pub IsBehind : (Change → Type 0) → Word → List Word → List Word → Option Told → Type 0
IsBehind Within word old new None = (c : Change) (more : List Word) → change_word c ≡ word → (old ≡ change_words c ++ more) → ⊥
IsBehind Within word old new (Some t) = (c : Change) × (change_word c ≡ word) × (old ≡ change_words c ++ new) × IsTold Within c t

-- the words are those of a change, or they are not
abbrev pub AreTold : (Change → Type 0) → List Word → Option Told → Type 0
AreTold Within words None = (c : Change) → (words ≡ change_word c ∷ change_words c) → ⊥
AreTold Within words (Some t) = (c : Change) × (words ≡ change_word c ∷ change_words c) × IsTold Within c t

-- what is found on a line that may be a change's
abbrev pub IsFound : (Change → Type 0) → Line → Found → Type 0
IsFound Within line Bad = (c : Change) → line ≢ change_line c
IsFound Within line Great = (c : Change) × (line ≡ change_line c) × (Within c → ⊥)
IsFound Within line (Whole c) = (line ≡ change_line c) × Within c

-- the line may stand there: the last one, or a row's; a change stands in a scenario
abbrev pub IsRowOrEnd : ℕ → Line → Type 0
IsRowOrEnd scenarios line = (line ≡ codes "end") ⊎ (line ≡ codes "scenario") ⊎ ((0 < scenarios) × (c : Change) × (line ≡ change_line c))

-- so many more scenarios and changes are allowed
pub record IsFineRow (Within : Change → Type 0) (scenarios changes : ℕ) (line : Line) : Type 0 where
  pub opens : line ≡ codes "scenario" → scenarios < MOST_SCENARIOS
  pub makes : (c : Change) → line ≡ change_line c → (changes < MOST_CHANGES) × Within c

-- the row may stand there
abbrev pub IsRow : (Change → Type 0) → ℕ → ℕ → Row → Type 0
IsRow Within scenarios changes Opens = scenarios < MOST_SCENARIOS
IsRow Within scenarios changes (Makes c) = (0 < scenarios) × (changes < MOST_CHANGES) × Within c

-- a row was given, or the last line, or why not
abbrev pub IsRowRead : (Change → Type 0) → ℕ → ℕ → Given → Given → Result (Option Row) TextError → Type 0
IsRowRead Within scenarios changes old new (Ok None) = GivesLine old new (codes "end")
IsRowRead Within scenarios changes old new (Ok (Some row)) = IsRow Within scenarios changes row × GivesLine old new (row_line row)
IsRowRead Within scenarios changes old new (Err e) = IsRefusedLine (IsRowOrEnd scenarios) (IsFineRow Within scenarios changes) old new e

-- the rows of scenarios within the limits and the last line were given, or why not of the text that begins before them
abbrev pub AreRead : (Change → Type 0) → Given → Given → Result (List (List Change)) TextError → Type 0
AreRead Within old new (Ok lists) = AreWithin Within lists × GivesLines old new (map row_line (rows lists) ++ codes "end" ∷ []) new.rest
AreRead Within old new (Err e) =
    (start : Given) → GivesLines start old (codes "scenarios 1" ∷ []) old.rest → IsReading scenario_lines (AreWithin Within) start new (Err e)
