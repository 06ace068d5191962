-- The lines of a history, oldest first, and what is asked of the whole list.
use Rattle.std.specs.Prelude.{
  ℕ,
  ◌-◌,
  Bool,
  true,
  false,
  ◌&&◌,
  ◌==◌,
  if◌then◌else◌,
  List,
  [],
  ◌∷◌,
  filter,
  count_by,
  slice_index_or,
  slice_get,
  Option,
  Some,
  None,
  is_some,
  unwrap_or,
  option_and_then,
}
use Rattle.std.specs.List.{list_any, filter_map}
use Rattle.std.specs.Option.{option_map}
use Rattle.bp_types.specs.declared.command.Command.{Command}
use Rattle.bp_types.specs.declared.command.Command.TheVariants.{Book, Cancel}
use Rattle.bp_types.specs.Claim.{Claim}
use Rattle.bp_board.specs.Posted.{Posted}
use Rattle.bp_core.specs.declared.line.Act.{Act}
use Rattle.bp_core.specs.declared.line.Act.TheVariants.{Do, Publish, Leave}
use Rattle.bp_core.specs.declared.line.Reply.{Reply}
use Rattle.bp_core.specs.declared.line.Reply.TheVariants.{Accepted, Cancelled, Done, GroupAccepted}
use Rattle.bp_core.specs.declared.line.Line.{Line}

-- a history: who asked for what, and what was answered
abbrev pub History : Type 0
History = List Line

-- a Leave of nobody; what stands past the end of a history
abbrev pub no_line : Line
no_line = record { entry = record { caller = 0; act = Leave; reply = Done }; certificate = None }

-- the line at a place
abbrev pub line_at : History → ℕ → Line
line_at H place = slice_index_or H place no_line

-- the value of the last line that has one, or else d
abbrev pub last_value : {X : Type 0} → (Line → Option X) → X → History → X
last_value value d [] = d
last_value value d (x ∷ xs) = last_value value (unwrap_or (value x) d) xs

-- the lines after the last one that passes the test, or all of them
abbrev pub since : (Line → Bool) → History → History
since test [] = []
since test (x ∷ xs) = if list_any test (x ∷ xs) then since test xs else x ∷ xs

-- the entry is this caller's
abbrev pub is_by : ℕ → Line → Bool
is_by caller x = x.entry.caller == caller

-- the stay that a Book names
abbrev pub booked_stay : Act → Option ℕ
booked_stay (Do (Book stay)) = Some stay
booked_stay _ = None

-- an entry that is a Book
abbrev pub is_book : Line → Bool
is_book x = is_some (booked_stay x.entry.act)

-- a Book of this caller
abbrev pub is_book_by : ℕ → Line → Bool
is_book_by caller x = is_by caller x && is_book x

-- the command of a command act
abbrev pub command_of : Act → Option Command
command_of (Do command) = Some command
command_of _ = None

-- an entry that is a command
abbrev pub is_command : Line → Bool
is_command x = is_some (command_of x.entry.act)

-- the position that a Publish names
abbrev pub published_position : Act → Option ℕ
published_position (Publish position) = Some position
published_position _ = None

-- an entry that is a Publish
abbrev pub is_publish : Line → Bool
is_publish x = is_some (published_position x.entry.act)

-- a booking that was accepted
abbrev pub is_accepted : Reply → Bool
is_accepted (Accepted vector sum) = true
is_accepted _ = false

-- a cancellation that was made
abbrev pub is_cancelled : Reply → Bool
is_cancelled Cancelled = true
is_cancelled _ = false

-- a plain Done
abbrev pub is_done : Reply → Bool
is_done Done = true
is_done _ = false

-- a group that was accepted
abbrev pub is_group_accepted : Reply → Bool
is_group_accepted (GroupAccepted displacement) = true
is_group_accepted _ = false

-- a Cancel of this booking
abbrev pub is_cancel_of : ℕ → Act → Bool
is_cancel_of nth (Do (Cancel n)) = n == nth
is_cancel_of nth _ = false

-- the entry by which a caller gave up its nth booking
abbrev pub is_cancellation : ℕ → ℕ → Line → Bool
is_cancellation caller nth x = is_by caller x && (is_cancel_of nth x.entry.act && is_cancelled x.entry.reply)

-- the caller gave up its nth booking
abbrev pub has_given_up : History → ℕ → ℕ → Bool
has_given_up H caller nth = list_any (is_cancellation caller nth) H

-- the nth Book of a caller, counted from 1, whatever its reply
abbrev pub nth_book : History → ℕ → ℕ → Option Line
nth_book H caller nth = slice_get (filter (is_book_by caller) H) (nth - 1)

-- how many command entries there are
abbrev pub commands : History → ℕ
commands H = count_by is_command H

-- how many vectors there are
abbrev pub vectors : History → ℕ
vectors H = count_by is_publish H

-- the number of the last vector
abbrev pub last_number : History → ℕ
last_number H = vectors H - 1

-- the position of the last vector
abbrev pub last_position : History → ℕ
last_position H = last_value (λ x. published_position x.entry.act) 0 H

-- the prices of a line that has a certificate
abbrev pub prices_of : Line → Option (List ℕ)
prices_of x = option_map (λ (c : Claim). c.prices) x.certificate

-- the prices of the last vector
abbrev pub last_prices : History → List ℕ
last_prices H = last_value prices_of [] H

-- a vector as it stands on the board
abbrev pub posted : Line → Option Posted
posted x = option_map (λ (c : Claim). record { position = unwrap_or (published_position x.entry.act) 0; certificate = c }) x.certificate

-- the certificate of the line at a place
abbrev pub certificate_at : History → ℕ → Option Claim
certificate_at H place = option_and_then (λ (x : Line). x.certificate) (slice_get H place)

-- the vectors of a history, in order
abbrev pub boards : History → List Posted
boards H = filter_map posted H

-- the entries of a caller, in order
abbrev pub calls : History → ℕ → History
calls H caller = filter (is_by caller) H

-- the commands of a caller, in order
abbrev pub commands_of : History → ℕ → List Command
commands_of H caller = filter_map (λ (x : Line). command_of x.entry.act) (calls H caller)
