-- What a call with texts replies: the outcome of a line of words over files that hold the texts.
use Rattle.std.specs.Prelude.{◌≡◌, ◌⊎◌, ℕ, ◌<◌, ◌≤◌, List, [], ◌∷◌, ◌++◌, length, drop, codes, Some}
use Rattle.std.specs.Fmt.{decimal}
use Rattle.bp_types.specs.declared.limits.TheConstants.{MOST_GROUP_ROOMS}
use Rattle.bp_edges.specs.Memory.{NamedBytes, ShelfState, files_of}
use Rattle.bp_edges.specs.Schedule.{IsOver}
use Rattle.bp_cli.specs.Words.{Word}
use Rattle.bp_cli.specs.Tasks.{Task, Asks}
use Rattle.bp_run.specs.Served.{AreServed}
use Rattle.bp_inputs.specs.Fetches.{Shelved}
use Rattle.bp_run.specs.Ends.{Outcome}
use Rattle.bp_c.specs.declared.buffer.TheConstants.{NO_MEMORY, TOO_SHORT}
use Rattle.bp_c.specs.declared.group.TheConstants.{NUMBERS}

-- what a shelf in memory tells at one moment
abbrev pub told : ShelfState → Shelved
told s = record { held = Some (files_of s.files); faults = s.tally.faults; fetches = s.tally.fetches; last = s.tally.last; steady = IsOver s.schedule }

-- the command ends with this status and this text for these words, over a shelf in memory that holds these files
pub record IsOutcomeOf (words : List Word) (files : List NamedBytes) (status : ℕ) (text : List ℕ) : Type 0 where
  pub before : ShelfState
  pub now : ShelfState
  pub holds : before.files ≡ files
  pub outcome : Outcome words (record { before = told before; now = told now }) status text

-- a command and the name of one file
abbrev pub line_of_one : Word → List Word
line_of_one command = command ∷ codes "first" ∷ []

-- a command and the names of two files
abbrev pub line_of_two : Word → List Word
line_of_two command = command ∷ codes "first" ∷ codes "second" ∷ []

-- the line of a group
abbrev pub group_line : ℕ → ℕ → ℕ → List Word
group_line from to rooms = codes "group" ∷ codes "first" ∷ decimal from ∷ decimal to ∷ decimal rooms ∷ []

-- the numbers of a group that a line may have
pub record AreGroupNumbers (from to rooms : ℕ) : Type 0 where
  pub small_from : from < NUMBERS
  pub small_to : to < NUMBERS
  pub some_rooms : 1 ≤ rooms
  pub few_rooms : rooms ≤ MOST_GROUP_ROOMS

-- the file of such a line
abbrev pub one_file : List ℕ → List NamedBytes
one_file first = record { name = codes "first"; bytes = first } ∷ []

-- both files of such a line
abbrev pub two_files : List ℕ → List ℕ → List NamedBytes
two_files first second =
    record { name = codes "first"; bytes = first } ∷ record { name = codes "second"; bytes = second } ∷ []

-- what the words give: the text of a status, or that there was no memory
pub record IsGiven (words : List Word) (files : List NamedBytes) (status : ℕ) (text : List ℕ) : Type 0 where
  pub known : (status ≤ 3) ⊎ (status ≡ NO_MEMORY)
  pub outcome : status ≤ 3 → IsOutcomeOf words files status text

-- so it is of each line that asks for a task
abbrev pub IsGivenByTask : Task → List NamedBytes → ℕ → List ℕ → Type 0
IsGivenByTask task files status text = (words : List Word) → Asks words task → IsGiven words files status text

-- and of each line that asks for none
abbrev pub IsGivenByNone : List NamedBytes → ℕ → List ℕ → Type 0
IsGivenByNone files status text = (words : List Word) → (AreServed words → ⊥) → IsGiven words files status text

-- the text of this status stands at the front of the buffer, and the rest of the buffer is as before
pub record IsAnswered (words : List Word) (files : List NamedBytes) (status : ℕ) (old new : List ℕ) (written : ℕ) : Type 0 where
  pub text : List ℕ
  pub outcome : IsOutcomeOf words files status text
  pub counted : written ≡ length text
  pub filled : new ≡ text ++ drop (length text) old

-- the command has a text of this length, and the buffer is shorter
pub record IsTooShort (words : List Word) (files : List NamedBytes) (old : List ℕ) (written : ℕ) : Type 0 where
  pub status : ℕ
  pub text : List ℕ
  pub answered : status ≤ 3
  pub outcome : IsOutcomeOf words files status text
  pub counted : written ≡ length text
  pub short : length old < written

-- what a call with texts replies to a line: its status, and what it leaves of the buffer and of the length
pub record Replies (words : List Word) (files : List NamedBytes) (result : ℕ) (old new : List ℕ) (before written : ℕ) : Type 0 where
  -- a status of the command, or that there was no memory or not enough room
  pub known : (result ≤ 3) ⊎ (result ≡ NO_MEMORY) ⊎ (result ≡ TOO_SHORT)
  -- at a status of the command its text is there
  pub answered : result ≤ 3 → IsAnswered words files result old new written
  -- where the buffer is too short, the length is there
  pub short : result ≡ TOO_SHORT → IsTooShort words files old written
  -- at each other status the buffer is as before, and without memory the length is
  pub kept : 3 < result → new ≡ old
  pub no_length : result ≡ NO_MEMORY → written ≡ before

-- so it is of each line that asks for a task
abbrev pub RepliesToTask : Task → List NamedBytes → ℕ → List ℕ → List ℕ → ℕ → ℕ → Type 0
RepliesToTask task files result old new before written =
    (words : List Word) → Asks words task → Replies words files result old new before written

-- and of each line that asks for none
abbrev pub RepliesToNone : List NamedBytes → ℕ → List ℕ → List ℕ → ℕ → ℕ → Type 0
RepliesToNone files result old new before written =
    (words : List Word) → (AreServed words → ⊥) → Replies words files result old new before written
