use Rattle.std.proofs.Common.{◌≡◌, ◌-◌, ◌<◌}
use Rattle.bp_core.specs.Callers.{left_of}
use Rattle.bp_core.proofs.book.Book.left.Given as goal

-- the callers before this one are counted
abbrev pub invariant-loop-caller : goal.invariant-loop-caller
invariant-loop-caller l = record {
  counted : l.left ≡ left_of l.self.history (l.caller - 1);
  small : l.left < l.caller;
}
