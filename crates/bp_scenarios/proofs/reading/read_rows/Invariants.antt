use Rattle.std.proofs.Common.{◌≡◌, length}
use Rattle.bp_scenarios.specs.Refused.{IsChangeOf}
use Rattle.bp_scenarios.specs.Texts.{all_changes}
use Rattle.bp_scenarios.proofs.PlaceLemmas.{SoFar}
use Rattle.bp_scenarios.proofs.reading.read_rows.Given as goal

-- the rows so far were given, and their changes counted
abbrev pub invariant-loop-lists : goal.invariant-loop-lists
invariant-loop-lists l =
    (l.changes ≡ length (all_changes l.lists.items)) × SoFar (IsChangeOf l.size.nights l.size.stays) l.fn.lines l.lines l.lists.items

abbrev pub decreases-loop-lists : goal.decreases-loop-lists
decreases-loop-lists l = length l.lines.rest
