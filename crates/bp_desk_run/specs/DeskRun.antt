-- What the history of a run is: the theorem of a desk that ran, to be read before anything else here.
--
-- Caller 0 is the opener. The sessions are the callers from 1 on, in the order of their commands, and the workers have
-- the numbers after theirs.
use Rattle.std.specs.Prelude.{◌≡◌, ◌≢◌, ◌⊎◌, ℕ, ◌+◌, ◌/◌, ◌<◌, ◌≤◌, Bool, true, ◌==◌, if◌then◌else◌, List, [], ◌∷◌, ◌++◌, All, length, take, slice_index_or}
use Rattle.bp_types.specs.declared.command.Command.{Command}
use Rattle.bp_types.specs.House.{Inn}
use Rattle.bp_turn.specs.Prefix.{IsPrefix}
use Rattle.bp_core.specs.declared.line.Line.{Line}
use Rattle.bp_core.specs.Lines.{History, line_at, is_publish, last_position, calls, commands_of, commands, vectors}
use Rattle.bp_core.specs.Callers.{is_enrol, is_leave}
use Rattle.bp_core.specs.Changes.{changes_after}
use Rattle.bp_core.specs.Legal.{IsLegal}
use Rattle.bp_optimise.specs.Vectors.{IsLeastVector}
use Rattle.bp_optimise.specs.Works.{HaveLeft}

-- the lead of a house: half of the changes after which a booking waits, rounded up
abbrev pub lead_of : Inn → ℕ
lead_of house = (house.limits.stale_after + 1) / 2

-- the commands of the session at an index, which is caller index + 1
abbrev pub script_of : List (List Command) → ℕ → List Command
script_of scripts index = slice_index_or scripts index []

-- the last entry of the caller is a Leave
abbrev pub LeavesLast : History → ℕ → Type 0
LeavesLast H caller = (earlier : History) × (x : Line) × (calls H caller ≡ earlier ++ x ∷ []) × (is_leave x.entry.act ≡ true)

-- the opener has entry 0, and at most one Publish more, which is the last entry
abbrev pub OpensAndCloses : History → Type 0
OpensAndCloses H =
    (calls H 0 ≡ line_at H 0 ∷ [])
    ⊎ ((before : History) × (x : Line) × (H ≡ before ++ x ∷ []) × (is_publish x ≡ true) × (calls H 0 ≡ line_at H 0 ∷ x ∷ []))

-- H is a desk run of the house, these scripts and so many workers
pub record IsDeskRun (house : Inn) (scripts : List (List Command)) (workers : ℕ) (H : History) : Type 0 where
  -- it is legal
  pub legal : IsLegal house H
  -- every entry is of the opener, a session or a worker
  pub callers : All (λ (x : Line). x.entry.caller ≤ length scripts + workers) H
  -- the places from 1 on are the Enrols of the sessions and the workers, in the order of their numbers
  pub enrolled : (c : ℕ) → 1 ≤ c → c ≤ length scripts + workers → (c < length H) × ((line_at H c).entry.caller ≡ c) × (is_enrol (line_at H c).entry.act ≡ true)
  -- each of them has a Leave as its last entry
  pub left : (c : ℕ) → 1 ≤ c → c ≤ length scripts + workers → LeavesLast H c
  -- where a worker leaves, all sessions have left
  pub sessions_first : (i : ℕ) → i < length H → is_leave (line_at H i).entry.act ≡ true → length scripts < (line_at H i).entry.caller →
      HaveLeft (take i H) (length scripts)
  -- the commands of a session are the first ones of its script, each once and in order
  pub in_order : (i : ℕ) → i < length scripts → IsPrefix (commands_of H (i + 1)) (script_of scripts i)
  -- nobody else makes a command
  pub no_command : (c : ℕ) → (c ≡ 0) ⊎ (length scripts < c) → commands_of H c ≡ []
  -- each vector has the least prices of the instance at its position; between the last vector's position and that of
  -- one by a session or a worker stand `lead` changes at least
  pub least_prices : (i : ℕ) → i < length H → is_publish (line_at H i) ≡ true
      → IsLeastVector house (if (line_at H i).entry.caller == 0 then 0 else lead_of house) (take i H) (line_at H i)
  -- the opener opens the desk, and may publish once more at the end
  pub opener : OpensAndCloses H

-- complete: every session has made all commands of its script
abbrev pub IsComplete : List (List Command) → History → Type 0
IsComplete scripts H = (i : ℕ) → i < length scripts → commands_of H (i + 1) ≡ script_of scripts i

-- some session has not
abbrev pub LacksCommands : List (List Command) → History → Type 0
LacksCommands scripts H = (i : ℕ) × (i < length scripts) × (commands_of H (i + 1) ≢ script_of scripts i)

-- closed: no change stands after the last vector's position
abbrev pub IsClosed : History → Type 0
IsClosed H = changes_after H (last_position H) ≡ 0

-- the first cause of a cut: there are as many command entries as the house allows, and some session has not made all of
-- its commands
abbrev pub NoEntryLeft : Inn → List (List Command) → History → Type 0
NoEntryLeft house scripts H = (commands H ≡ house.limits.entries) × LacksCommands scripts H

-- the second: there are as many vectors as the house allows, `stale_after` changes at least stand after the last one's
-- position, and some session has not made all of its commands
abbrev pub NoVectorLeft : Inn → List (List Command) → History → Type 0
NoVectorLeft house scripts H =
    (vectors H ≡ house.limits.publications) × (house.limits.stale_after ≤ changes_after H (last_position H)) × LacksCommands scripts H

-- the third: all commands are there, there are as many vectors as the house allows, and a change stands after the last
-- one's position
abbrev pub NoClosingVectorLeft : Inn → List (List Command) → History → Type 0
NoClosingVectorLeft house scripts H = IsComplete scripts H × (vectors H ≡ house.limits.publications) × (1 ≤ changes_after H (last_position H))

-- cut: one of the three is the case, and the history is closed unless there are as many vectors as the house allows
pub record IsCut (house : Inn) (scripts : List (List Command)) (H : History) : Type 0 where
  pub cause : NoEntryLeft house scripts H ⊎ (NoVectorLeft house scripts H ⊎ NoClosingVectorLeft house scripts H)
  pub closed : IsClosed H ⊎ (vectors H ≡ house.limits.publications)

-- how many commands the scripts have in all
abbrev pub all_commands : List (List Command) → ℕ
all_commands [] = 0
all_commands (cs ∷ rest) = length cs + all_commands rest

-- the house allows an entry for each command, and two vectors and one more for every `lead` commands
abbrev pub HasRoomFor : Inn → ℕ → Type 0
HasRoomFor house many = (many ≤ house.limits.entries) × (2 + many / lead_of house ≤ house.limits.publications)
