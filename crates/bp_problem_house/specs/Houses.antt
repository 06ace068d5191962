-- The house of a problem.
use Rattle.std.specs.Prelude.{length, replicate}
use Rattle.bp_types.specs.Program.{Program}
use Rattle.bp_types.specs.House.{Inn}
use Rattle.bp_types.specs.declared.command.Limits.{Limits}
use Rattle.bp_types.specs.declared.limits.TheConstants.{MOST_STALE_AFTER, MOST_ENTRIES, MOST_PUBLICATIONS}

-- the greatest limits, in whole rooms
abbrev pub greatest_limits : Limits
greatest_limits = record { stale_after = MOST_STALE_AFTER; entries = MOST_ENTRIES; publications = MOST_PUBLICATIONS; unit = 1 }

-- its rooms, none of them sold, and its stays
abbrev pub house_of_problem : Program → Inn
house_of_problem p = record { rooms = p.rooms; sold = replicate (length p.rooms) 0; stays = p.stays; limits = greatest_limits }
