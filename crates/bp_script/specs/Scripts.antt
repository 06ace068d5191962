-- The script: what each row asks of a session, and the commands of each session.
use Rattle.std.specs.Prelude.{
  ℕ,
  ◌+◌,
  max,
  nat_lt,
  ◌==◌,
  if◌then◌else◌,
  List,
  [],
  ◌∷◌,
  map,
  filter,
  fold,
  length,
  slice_index_or,
  Option,
  Some,
  None,
  Result,
  Ok,
  Err,
}
use Rattle.std.specs.List.{range_with_len}
use Rattle.bp_types.specs.declared.command.Command.{Command}
use Rattle.bp_types.specs.declared.limits.TheConstants.{MOST_ENTRIES}
use Rattle.bp_hotelfile.specs.Numbers.{is_between}
use Rattle.bp_hotelfile.specs.Season.{Season}
use Rattle.bp_hotelfile.specs.Steps.{◌>>=◌}
use Rattle.bp_stayfile.specs.declared.column.Column.{Column}
use Rattle.bp_stayfile.specs.declared.column.Column.TheVariants as column
use Rattle.bp_stayfile.specs.declared.error.TableRefusal.{TableRefusal}
use Rattle.bp_stayfile.specs.declared.error.TableRefusal.TheVariants.{Session, Limit}
use Rattle.bp_stayfile.specs.Fields.{number_of}
use Rattle.bp_stayfile.specs.Tables.{Record, table_of}
use Rattle.bp_stayfile.specs.Reading.{table_read}
use Rattle.bp_script.specs.declared.request.Request.{Request}
use Rattle.bp_types.specs.declared.limits.TheConstants.{MOST_SESSIONS}
use Rattle.bp_script.specs.Verbs.{verb_in}
use Rattle.bp_script.specs.Commands.{command_in}

-- the number of a session, from 1 to the most that there may be
abbrev pub session_of : ℕ → Option ℕ → Result ℕ TableRefusal
session_of line None = Err (Session line)
session_of line (Some n) = if is_between 1 MOST_SESSIONS n then Ok n else Err (Session line)

-- the same of a text
abbrev pub session_in : ℕ → List ℕ → Result ℕ TableRefusal
session_in line t = session_of line (number_of t)

-- there is room for a command more
abbrev pub room_in : ℕ → ℕ → Result (Unit {0}) TableRefusal
room_in line before = if nat_lt before MOST_ENTRIES then Ok tt else Err (Limit line)

-- what a row asks after so many rows before it: the tests in their order
abbrev pub request_in : Season → List (List ℕ) → ℕ → Record → Result Request TableRefusal
request_in season codes before row =
    let line = before + 2 in
    session_in line (slice_index_or row 0 []) >>= (λ session.
    verb_in line (slice_index_or row 1 []) >>= (λ verb.
    command_in season codes line row verb >>= (λ command.
    room_in line before >>= (λ _.
    Ok (record { session = session; command = command })))))

-- what a row says after the rows before it
abbrev pub request_rule : Season → List (List ℕ) → List Request → Record → Result Request TableRefusal
request_rule season codes before row = request_in season codes (length before) row

-- the columns of a script
abbrev pub script_columns : List Column
script_columns = column.Session ∷ column.Verb ∷ column.Item ∷ column.Nights ∷ column.Rooms ∷ column.Amount ∷ []

-- the commands of a session, in the order of the file
abbrev pub commands_of : List Request → ℕ → List Command
commands_of requests session = map (λ r. r.command) (filter (λ r. r.session == session) requests)

-- the greatest session that is named, or 0
abbrev pub greatest_session : List Request → ℕ
greatest_session requests = fold (λ most r. max most r.session) 0 requests

-- the commands of each session, from session 1 to the greatest that is named
abbrev pub by_session : List Request → List (List Command)
by_session requests = map (commands_of requests) (range_with_len 1 (greatest_session requests))

-- the requests of a script, or its first refusal
abbrev pub requests_file : Season → List (List ℕ) → List ℕ → Result (List Request) TableRefusal
requests_file season codes bytes = table_of script_columns bytes >>= table_read (request_rule season codes)

-- the commands of each session of a script, or its first refusal
abbrev pub script_file : Season → List (List ℕ) → List ℕ → Result (List (List Command)) TableRefusal
script_file season codes bytes = requests_file season codes bytes >>= (λ requests. Ok (by_session requests))
