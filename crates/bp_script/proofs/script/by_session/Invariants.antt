use Rattle.std.proofs.Common.{◌≡◌, map}
use Rattle.std.specs.List.{range_with_len}
use Rattle.bp_script.specs.Scripts.{commands_of}
use Rattle.bp_script.proofs.script.by_session.Given as goal

-- the sessions so far have their commands
abbrev pub invariant-loop-before : goal.invariant-loop-before
invariant-loop-before l = l.sessions.items ≡ map (commands_of l.requests) (range_with_len 1 l.before)
