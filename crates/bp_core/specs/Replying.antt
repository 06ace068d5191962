-- What a line and an answer say of the history before them.
use Rattle.std.specs.Prelude.{◌≡◌, ℕ, ◌≤◌, [], ◌∷◌, ◌++◌, Option, Some, None}
use Rattle.bp_types.specs.declared.command.Command.{Command}
use Rattle.bp_types.specs.declared.command.Command.TheVariants.{Book, Group}
use Rattle.bp_types.specs.declared.command.Quoted.{Quoted}
use Rattle.bp_types.specs.House.{Inn}
use Rattle.bp_types.specs.Spans.{first_short}
use Rattle.bp_core.specs.Instance.{rooms_left_at}
use Rattle.bp_core.specs.declared.line.Act.{Act}
use Rattle.bp_core.specs.declared.line.Act.TheVariants.{Do as DoAct}
use Rattle.bp_core.specs.declared.line.Reply.{Reply}
use Rattle.bp_core.specs.declared.line.Line.{Line}
use Rattle.bp_core.specs.declared.call.Call.TheVariants.{Do}
use Rattle.bp_core.specs.declared.call.Answer.{Answer}
use Rattle.bp_core.specs.declared.call.Answer.TheVariants.{Logged, HistoryFull, Behind, Unquoted, Stale}
use Rattle.bp_core.specs.Lines.{History, commands, last_position}
use Rattle.bp_core.specs.Changes.{changes_after}
use Rattle.bp_core.specs.Answer.{IsReply}
use Rattle.bp_core.specs.Legal.{IsLegal, IsLegalLine}
use Rattle.bp_core.specs.Acting.{Diary, IsAnswered, plain_line}

-- the last line of a legal history may stand after those before it
abbrev pub LastLineIsLegal : Type 0
LastLineIsLegal = (h : Inn) (H : History) (x : Line) → IsLegal h (H ++ x ∷ []) → IsLegalLine h H x

-- there is one reply
abbrev pub OneReply : Type 0
OneReply = (h : Inn) (H : History) (caller : ℕ) (act : Act) (r s : Reply) → IsReply h H caller act r → IsReply h H caller act s → r ≡ s

-- the command is logged with the reply of its moment
pub record Adds (old new : Diary) (caller : ℕ) (command : Command) (reply : Reply) : Type 0 where
  pub line : new ≡ record { house = old.house; history = old.history ++ plain_line caller (DoAct command) reply ∷ [] }
  pub reply_is : IsReply old.house old.history caller (DoAct command) reply

-- as many commands as the limits allow are logged
abbrev pub IsFull : Diary → Type 0
IsFull b = commands b.history ≡ b.house.limits.entries

-- a Book, and this many changes stand after the last vector's position, too many
pub record IsBehind (b : Diary) (command : Command) (position changes : ℕ) : Type 0 where
  pub stay : ℕ
  pub book : command ≡ Book stay
  pub not_full : IsFull b → ⊥
  pub position_is : position ≡ last_position b.history
  pub changes_are : changes ≡ changes_after b.history position
  pub too_many : b.house.limits.stale_after ≤ changes

-- a Group for which there are rooms
abbrev pub NeedsQuote : Diary → Command → Type 0
NeedsQuote b (Group span rooms amount) = first_short (rooms_left_at b.house b.history) span rooms ≡ None
NeedsQuote b _ = ⊥

-- this many changes stand after the position of the quote
pub record IsStale (b : Diary) (quoted : Option Quoted) (changes : ℕ) : Type 0 where
  pub quote : Quoted
  pub given : quoted ≡ Some quote
  pub changes_are : changes ≡ changes_after b.history quote.position
  pub some : 1 ≤ changes

-- why a command is refused with this answer
abbrev pub IsCause : Diary → Command → Option Quoted → Answer → Type 0
IsCause b command quoted HistoryFull = IsFull b
IsCause b command quoted (Behind position changes) = IsBehind b command position changes
IsCause b command quoted Unquoted = NeedsQuote b command × (quoted ≡ None)
IsCause b command quoted (Stale changes) = NeedsQuote b command × IsStale b quoted changes
IsCause b command quoted _ = ⊥

-- what an answer to a command says: it is logged, or for this cause the book is as it was
abbrev pub IsSaid : Diary → Diary → ℕ → Command → Option Quoted → Answer → Type 0
IsSaid old new caller command quoted (Logged reply) = Adds old new caller command reply
IsSaid old new caller command quoted answer = (new ≡ old) × IsCause old command quoted answer

-- so each answer says
abbrev pub AnswersSay : Type 0
AnswersSay =
    (old new : Diary) (caller : ℕ) (command : Command) (quoted : Option Quoted) (answer : Answer) →
    IsAnswered old new caller (Do command quoted) answer → IsSaid old new caller command quoted answer
