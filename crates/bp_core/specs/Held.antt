-- A booking that was accepted and not given up.
use Rattle.std.specs.Prelude.{◌≡◌, ℕ, true, false, Some}
use Rattle.std.specs.List.{list_any}
use Rattle.bp_core.specs.declared.line.Line.{Line}
use Rattle.bp_core.specs.Lines.{History, nth_book, booked_stay, is_accepted, is_cancellation}

-- the nth booking of a caller is for this stay, was accepted, and was not given up
pub record IsHeld (H : History) (caller nth stay : ℕ) : Type 0 where
  pub line : Line
  pub is_nth : nth_book H caller nth ≡ Some line
  pub stay_is : booked_stay line.entry.act ≡ Some stay
  pub accepted : is_accepted line.entry.reply ≡ true
  pub kept : list_any (is_cancellation caller nth) H ≡ false
