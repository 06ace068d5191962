-- The reply of each act after a history.
use Rattle.std.specs.Prelude.{◌≡◌, ℕ, ◌*◌, Bool, nat_lt, if◌then◌else◌, Option, Some, None, MatchOption}
use Rattle.std.specs.List.{list_any}
use Rattle.bp_types.specs.declared.stay.Span.{Span}
use Rattle.bp_types.specs.declared.command.Command.{Command}
use Rattle.bp_types.specs.declared.command.Command.TheVariants.{Book, Cancel, Reforecast, Reprice, Resize, Group}
use Rattle.bp_types.specs.Program.{price}
use Rattle.bp_types.specs.Displacement.{IsDisplacement}
use Rattle.bp_types.specs.House.{Inn}
use Rattle.bp_types.specs.Spans.{first_short}
use Rattle.bp_core.specs.declared.line.Act.{Act}
use Rattle.bp_core.specs.declared.line.Act.TheVariants.{Do, Publish, Enrol, Leave}
use Rattle.bp_core.specs.declared.line.Reply.{Reply}
use Rattle.bp_core.specs.declared.line.Reply.TheVariants.{
  Accepted,
  TooLow,
  NoRoom,
  Cancelled,
  NotBooked,
  AlreadyCancelled,
  Done,
  BelowSold,
  GroupAccepted,
  GroupTooLow,
  GroupNoRoom,
  Vector,
}
use Rattle.bp_core.specs.declared.line.Line.{Line}
use Rattle.bp_core.specs.Lines.{History, is_accepted, is_cancellation, nth_book, vectors, last_number, last_prices}
use Rattle.bp_core.specs.Instance.{span_of, rate_of, sold_at, instance_of, rooms_left_at}

-- the price of a stay by the last vector
abbrev pub sum_of : Inn → History → ℕ → ℕ
sum_of h H stay = price (last_prices H) (span_of h stay)

-- a covered price is accepted, unless a night is full
abbrev pub covered_reply : ℕ → ℕ → Option ℕ → Reply
covered_reply vector sum None = Accepted vector sum
covered_reply vector sum (Some night) = NoRoom vector sum night

-- the reply to a Book
abbrev pub book_reply : Inn → History → ℕ → Reply
book_reply h H stay =
    if nat_lt (rate_of h H stay) (sum_of h H stay)
    then TooLow (last_number H) (sum_of h H stay) (rate_of h H stay)
    else covered_reply (last_number H) (sum_of h H stay) (first_short (rooms_left_at h H) (span_of h stay) 1)

-- the reply to a Cancel of this Book, where it was given up before, or not
abbrev pub given_up_reply : Option Line → Bool → Reply
given_up_reply None again = NotBooked
given_up_reply (Some x) again =
    if is_accepted x.entry.reply then (if again then AlreadyCancelled else Cancelled) else NotBooked

-- the reply to a Cancel
abbrev pub cancel_reply : History → ℕ → ℕ → Reply
cancel_reply H caller nth = given_up_reply (nth_book H caller nth) (list_any (is_cancellation caller nth) H)

-- the reply to a Resize
abbrev pub resize_reply : Inn → History → ℕ → ℕ → Reply
resize_reply h H night rooms = if nat_lt rooms (sold_at h H night) then BelowSold (sold_at h H night) else Done

-- a group pays for what it displaces, or is refused
abbrev pub group_reply : ℕ → ℕ → Reply
group_reply paid displacement = if nat_lt paid displacement then GroupTooLow displacement else GroupAccepted displacement

-- the reply to a Group for which there are rooms
pub record IsPricedReply (h : Inn) (H : History) (span : Span) (rooms amount : ℕ) (reply : Reply) : Type 0 where
  pub displacement : ℕ
  pub displaces : IsDisplacement (instance_of h H) span (h.limits.unit * rooms) displacement
  pub answers : reply ≡ group_reply (h.limits.unit * amount) displacement

-- the reply to a Group
abbrev pub IsGroupReply : Inn → History → Span → ℕ → ℕ → Reply → Type 0
IsGroupReply h H span rooms amount reply =
    MatchOption (first_short (rooms_left_at h H) span rooms) (IsPricedReply h H span rooms amount reply) (λ night. reply ≡ GroupNoRoom night)

-- the reply to a command
abbrev pub IsCommandReply : Inn → History → ℕ → Command → Reply → Type 0
IsCommandReply h H caller (Book stay) reply = reply ≡ book_reply h H stay
IsCommandReply h H caller (Cancel nth) reply = reply ≡ cancel_reply H caller nth
IsCommandReply h H caller (Reforecast stay count) reply = reply ≡ Done
IsCommandReply h H caller (Reprice stay rate) reply = reply ≡ Done
IsCommandReply h H caller (Resize night rooms) reply = reply ≡ resize_reply h H night rooms
IsCommandReply h H caller (Group span rooms amount) reply = IsGroupReply h H span rooms amount reply

-- the reply of its moment
abbrev pub IsReply : Inn → History → ℕ → Act → Reply → Type 0
IsReply h H caller (Do command) reply = IsCommandReply h H caller command reply
IsReply h H caller (Publish position) reply = reply ≡ Vector (vectors H)
IsReply h H caller Enrol reply = reply ≡ Done
IsReply h H caller Leave reply = reply ≡ Done
