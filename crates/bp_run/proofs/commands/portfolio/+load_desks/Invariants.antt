use Rattle.std.proofs.Common.{length}
use Rattle.bp_run.proofs.commands.portfolio.+load_desks.Given as goal

-- the hotels that are left
abbrev pub decreases-load_desks : goal.decreases-load_desks
decreases-load_desks g l = length l.names.now
