-- The words of acts and replies, their numbers, and which reply is one of an act's.
use Rattle.std.specs.Prelude.{ℕ, Bool, true, false, List, [], ◌∷◌, codes}
use Rattle.bp_types.specs.declared.command.Command.{Command}
use Rattle.bp_types.specs.declared.command.Command.TheVariants.{Book, Cancel, Reforecast, Reprice, Resize, Group}
use Rattle.bp_text.specs.Words.{Word}
use Rattle.bp_core.specs.declared.line.Act.{Act}
use Rattle.bp_core.specs.declared.line.Act.TheVariants.{Do, Publish, Enrol, Leave}
use Rattle.bp_core.specs.declared.line.Reply.{Reply}
use Rattle.bp_core.specs.declared.line.Reply.TheVariants.{
  Accepted,
  TooLow,
  NoRoom,
  Cancelled,
  NotBooked,
  AlreadyCancelled,
  Done,
  BelowSold,
  GroupAccepted,
  GroupTooLow,
  GroupNoRoom,
  Vector,
}
use Rattle.bp_core.specs.Lines.{is_done}

-- the word of a command
abbrev pub command_word : Command → Word
command_word (Book stay) = codes "book"
command_word (Cancel nth) = codes "cancel"
command_word (Reforecast stay count) = codes "reforecast"
command_word (Reprice stay rate) = codes "reprice"
command_word (Resize night rooms) = codes "resize"
command_word (Group span rooms amount) = codes "group"

-- the numbers behind the word of a command, in their order
abbrev pub command_numbers : Command → List ℕ
command_numbers (Book stay) = stay ∷ []
command_numbers (Cancel nth) = nth ∷ []
command_numbers (Reforecast stay count) = stay ∷ count ∷ []
command_numbers (Reprice stay rate) = stay ∷ rate ∷ []
command_numbers (Resize night rooms) = night ∷ rooms ∷ []
command_numbers (Group span rooms amount) = span.from ∷ span.to ∷ rooms ∷ amount ∷ []

-- the word of an act
abbrev pub act_word : Act → Word
act_word (Do command) = command_word command
act_word (Publish position) = codes "publish"
act_word Enrol = codes "enrol"
act_word Leave = codes "leave"

-- the numbers behind the word of an act, in their order
abbrev pub act_numbers : Act → List ℕ
act_numbers (Do command) = command_numbers command
act_numbers (Publish position) = position ∷ []
act_numbers Enrol = []
act_numbers Leave = []

-- the word of a reply
abbrev pub reply_word : Reply → Word
reply_word (Accepted vector sum) = codes "accepted"
reply_word (TooLow vector sum rate) = codes "toolow"
reply_word (NoRoom vector sum night) = codes "noroom"
reply_word Cancelled = codes "cancelled"
reply_word NotBooked = codes "notbooked"
reply_word AlreadyCancelled = codes "alreadycancelled"
reply_word Done = codes "done"
reply_word (BelowSold sold) = codes "belowsold"
reply_word (GroupAccepted displacement) = codes "accepted"
reply_word (GroupTooLow displacement) = codes "toolow"
reply_word (GroupNoRoom night) = codes "noroom"
reply_word (Vector number) = codes "vector"

-- the numbers behind the word of a reply, in their order
abbrev pub reply_numbers : Reply → List ℕ
reply_numbers (Accepted vector sum) = vector ∷ sum ∷ []
reply_numbers (TooLow vector sum rate) = vector ∷ sum ∷ rate ∷ []
reply_numbers (NoRoom vector sum night) = vector ∷ sum ∷ night ∷ []
reply_numbers Cancelled = []
reply_numbers NotBooked = []
reply_numbers AlreadyCancelled = []
reply_numbers Done = []
reply_numbers (BelowSold sold) = sold ∷ []
reply_numbers (GroupAccepted displacement) = displacement ∷ []
reply_numbers (GroupTooLow displacement) = displacement ∷ []
reply_numbers (GroupNoRoom night) = night ∷ []
reply_numbers (Vector number) = number ∷ []

-- the replies to a Book
abbrev pub is_book_reply : Reply → Bool
is_book_reply (Accepted vector sum) = true
is_book_reply (TooLow vector sum rate) = true
is_book_reply (NoRoom vector sum night) = true
is_book_reply _ = false

-- the replies to a Cancel
abbrev pub is_cancel_reply : Reply → Bool
is_cancel_reply Cancelled = true
is_cancel_reply NotBooked = true
is_cancel_reply AlreadyCancelled = true
is_cancel_reply _ = false

-- the replies to a Resize
abbrev pub is_resize_reply : Reply → Bool
is_resize_reply Done = true
is_resize_reply (BelowSold sold) = true
is_resize_reply _ = false

-- the replies to a Group
abbrev pub is_group_reply : Reply → Bool
is_group_reply (GroupAccepted displacement) = true
is_group_reply (GroupTooLow displacement) = true
is_group_reply (GroupNoRoom night) = true
is_group_reply _ = false

-- the replies to a Publish
abbrev pub is_publish_reply : Reply → Bool
is_publish_reply (Vector number) = true
is_publish_reply _ = false

-- a reply to a command of this kind
abbrev pub is_reply_to : Command → Reply → Bool
is_reply_to (Book stay) = is_book_reply
is_reply_to (Cancel nth) = is_cancel_reply
is_reply_to (Reforecast stay count) = is_done
is_reply_to (Reprice stay rate) = is_done
is_reply_to (Resize night rooms) = is_resize_reply
is_reply_to (Group span rooms amount) = is_group_reply

-- a reply to an act of this kind
abbrev pub is_reply_of : Act → Reply → Bool
is_reply_of (Do command) = is_reply_to command
is_reply_of (Publish position) = is_publish_reply
is_reply_of Enrol = is_done
is_reply_of Leave = is_done
