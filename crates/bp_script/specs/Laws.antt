-- Laws of scripts.
use Rattle.std.specs.Prelude.{◌≡◌, ℕ, ◌≤◌, IsTrue, List, length, All, Ok}
use Rattle.std.specs.List.{sum_by}
use Rattle.bp_types.specs.declared.command.Command.{Command}
use Rattle.bp_types.specs.House.{Inn}
use Rattle.bp_core.specs.Legal.{is_command_in_range}
use Rattle.bp_hotelfile.specs.Season.{Season}
use Rattle.bp_types.specs.declared.limits.TheConstants.{MOST_ENTRIES, MOST_SESSIONS}
use Rattle.bp_script.specs.Scripts.{script_file}

-- a script has no more sessions than there may be
abbrev pub SessionsAreFew : Type 0
SessionsAreFew = (season : Season) (codes : List (List ℕ)) (bytes : List ℕ) (script : List (List Command))
    → script_file season codes bytes ≡ Ok script → length script ≤ MOST_SESSIONS

-- a script has no more commands than a history may have, those of all sessions added up
abbrev pub CommandsAreFew : Type 0
CommandsAreFew = (season : Season) (codes : List (List ℕ)) (bytes : List ℕ) (script : List (List Command))
    → script_file season codes bytes ≡ Ok script → sum_by length script ≤ MOST_ENTRIES

-- each command of a script is within its limits, in a house of the season's nights with a stay for each code
abbrev pub CommandsAreInRange : Type 0
CommandsAreInRange = (season : Season) (codes : List (List ℕ)) (bytes : List ℕ) (script : List (List Command)) (h : Inn)
    → length h.rooms ≡ length season.rooms → length h.stays ≡ length codes
    → script_file season codes bytes ≡ Ok script → All (All (λ c. IsTrue (is_command_in_range h c))) script
