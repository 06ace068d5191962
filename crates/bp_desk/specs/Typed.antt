-- What the calls with answers of their own answer, as answers of the book.
use Rattle.std.specs.Prelude.{ℕ, Bool, true, false, Result, Ok, Err}
use Rattle.bp_core.specs.declared.line.Reply.{Reply}
use Rattle.bp_core.specs.declared.line.Reply.TheVariants.{
  Accepted,
  TooLow,
  NoRoom,
  Cancelled,
  NotBooked,
  AlreadyCancelled,
  Done,
  BelowSold,
  GroupAccepted,
  GroupTooLow,
  GroupNoRoom,
  Vector,
}
use Rattle.bp_core.specs.declared.call.Answer.{Answer}
use Rattle.bp_core.specs.declared.call.Answer.TheVariants.{Logged, HistoryFull, Behind, Unquoted, Stale, Superseded, PublicationsFull}
use Rattle.bp_desk.specs.declared.replies.BookReply.{BookReply}
use Rattle.bp_desk.specs.declared.replies.BookReply.TheVariants.{Accepted as Booked, TooLow as RateTooLow, NoRoom as NoRoomLeft}
use Rattle.bp_desk.specs.declared.replies.BookStop.{BookStop}
use Rattle.bp_desk.specs.declared.replies.BookStop.TheVariants.{HistoryFull as NoBookingLeft, Behind as PricesBehind}
use Rattle.bp_desk.specs.declared.replies.CancelReply.{CancelReply}
use Rattle.bp_desk.specs.declared.replies.CancelReply.TheVariants.{Cancelled as GivenUp, NotBooked as NoSuchBooking, AlreadyCancelled as GivenUpBefore}
use Rattle.bp_desk.specs.declared.replies.HistoryFull.{HistoryFull as FullHistory}
use Rattle.bp_desk.specs.declared.replies.ResizeReply.{ResizeReply}
use Rattle.bp_desk.specs.declared.replies.ResizeReply.TheVariants.{Done as Resized, BelowSold as TooFewRooms}
use Rattle.bp_desk.specs.declared.replies.GroupReply.{GroupReply}
use Rattle.bp_desk.specs.declared.replies.GroupReply.TheVariants.{Accepted as GroupBooked, TooLow as AmountTooLow, NoRoom as NoRoomsLeft}
use Rattle.bp_desk.specs.declared.replies.GroupStop.{GroupStop}
use Rattle.bp_desk.specs.declared.replies.GroupStop.TheVariants.{HistoryFull as NoGroupLeft, Unquoted as WithoutQuote, Stale as StaleQuote}
use Rattle.bp_desk.specs.declared.replies.PublishStop.{PublishStop}
use Rattle.bp_desk.specs.declared.replies.PublishStop.TheVariants.{Superseded as NoNewerVector, PublicationsFull as NoVectorLeft}

-- the answer of a booking
abbrev pub book_answer : Result BookReply BookStop → Answer
book_answer (Ok (Booked vector sum)) = Logged (Accepted vector sum)
book_answer (Ok (RateTooLow vector sum rate)) = Logged (TooLow vector sum rate)
book_answer (Ok (NoRoomLeft vector sum night)) = Logged (NoRoom vector sum night)
book_answer (Err NoBookingLeft) = HistoryFull
book_answer (Err (PricesBehind position changes)) = Behind position changes

-- the answer of a cancellation
abbrev pub cancel_answer : Result CancelReply FullHistory → Answer
cancel_answer (Ok GivenUp) = Logged Cancelled
cancel_answer (Ok NoSuchBooking) = Logged NotBooked
cancel_answer (Ok GivenUpBefore) = Logged AlreadyCancelled
cancel_answer (Err full) = HistoryFull

-- the answer of a forecast or a rate that is set
abbrev pub plain_answer : Result (Unit {0}) FullHistory → Answer
plain_answer (Ok done) = Logged Done
plain_answer (Err full) = HistoryFull

-- the answer of a change of rooms
abbrev pub resize_answer : Result ResizeReply FullHistory → Answer
resize_answer (Ok Resized) = Logged Done
resize_answer (Ok (TooFewRooms sold)) = Logged (BelowSold sold)
resize_answer (Err full) = HistoryFull

-- the answer of a group
abbrev pub group_answer : Result GroupReply GroupStop → Answer
group_answer (Ok (GroupBooked displacement)) = Logged (GroupAccepted displacement)
group_answer (Ok (AmountTooLow displacement)) = Logged (GroupTooLow displacement)
group_answer (Ok (NoRoomsLeft night)) = Logged (GroupNoRoom night)
group_answer (Err NoGroupLeft) = HistoryFull
group_answer (Err WithoutQuote) = Unquoted
group_answer (Err (StaleQuote changes)) = Stale changes

-- a reply that a group may get
abbrev pub is_group_reply : Reply → Bool
is_group_reply (GroupAccepted displacement) = true
is_group_reply (GroupTooLow displacement) = true
is_group_reply (GroupNoRoom night) = true
is_group_reply _ = false

-- an answer that a group may get
abbrev pub is_group_answer : Answer → Bool
is_group_answer (Logged reply) = is_group_reply reply
is_group_answer HistoryFull = true
is_group_answer Unquoted = true
is_group_answer (Stale changes) = true
is_group_answer _ = false

-- the answer of a publication
abbrev pub publish_answer : Result ℕ PublishStop → Answer
publish_answer (Ok number) = Logged (Vector number)
publish_answer (Err (NoNewerVector position changes)) = Superseded position changes
publish_answer (Err NoVectorLeft) = PublicationsFull
