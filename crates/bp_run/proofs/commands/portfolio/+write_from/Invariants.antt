use Rattle.std.proofs.Common.{length}
use Rattle.bp_run.proofs.commands.portfolio.+write_from.Given as goal

-- the hotels that are left
abbrev pub decreases-write_from : goal.decreases-write_from
decreases-write_from g l = length l.runs.now
