-- The statuses and their numbers.
use Rattle.std.specs.Prelude.{ℕ}
use Rattle.bp_run.specs.declared.status.Status.{Status}
use Rattle.bp_run.specs.declared.status.Status.TheVariants.{Done, Wrong, NotPlain, Refused, Fault, CutOff, NoMemory, Unfinished}

-- the number that the system gets
abbrev pub status_number : Status → ℕ
status_number Done = 0
status_number Wrong = 1
status_number NotPlain = 2
status_number Refused = 3
status_number Fault = 4
status_number CutOff = 5
status_number NoMemory = 6
status_number Unfinished = 7
