-- What a call may ask of a book, and what is answered.
use Rattle.std.specs.Prelude.{
  ◌≡◌,
  ℕ,
  ◌*◌,
  ◌≤◌,
  Bool,
  ◌==◌,
  nat_lt,
  nat_le,
  if◌then◌else◌,
  IsTrue,
  [],
  ◌∷◌,
  ◌++◌,
  length,
  Option,
  Some,
  None,
  is_some,
  MatchOption,
}
use Rattle.std.specs.Arc.{arc_value}
use Rattle.bp_types.specs.declared.command.Command.{Command}
use Rattle.bp_types.specs.declared.command.Command.TheVariants.{Book, Group}
use Rattle.bp_types.specs.declared.command.Quoted.{Quoted}
use Rattle.bp_types.specs.Claim.{Claim, IsCertificateOf}
use Rattle.bp_types.specs.Displacement.{IsDisplacement}
use Rattle.bp_types.specs.House.{Inn}
use Rattle.bp_types.specs.Spans.{first_short}
use Rattle.bp_board.specs.Posted.{Posted}
use Rattle.bp_core.specs.Log.{published_line}
use Rattle.bp_core.specs.declared.line.Act.{Act}
use Rattle.bp_core.specs.declared.line.Act.TheVariants.{Do as DoAct, Publish as PublishAct, Enrol as EnrolAct, Leave as LeaveAct}
use Rattle.bp_core.specs.declared.line.Reply.{Reply}
use Rattle.bp_core.specs.declared.line.Line.{Line}
use Rattle.bp_core.specs.declared.call.Call.{Call}
use Rattle.bp_core.specs.declared.call.Call.TheVariants.{Do, Publish, Enrol, Leave}
use Rattle.bp_core.specs.declared.call.Answer.{Answer}
use Rattle.bp_core.specs.declared.call.Answer.TheVariants.{Logged, HistoryFull, Behind, Unquoted, Stale, Superseded, PublicationsFull}
use Rattle.bp_core.specs.Lines.{History, commands, vectors, last_position}
use Rattle.bp_core.specs.Callers.{may_log}
use Rattle.bp_core.specs.Instance.{instance_at, rooms_left_at}
use Rattle.bp_core.specs.Changes.{changes_between, changes_after}
use Rattle.bp_core.specs.Answer.{IsReply}
use Rattle.bp_core.specs.Legal.{is_in_range}

-- what contracts see of a book
pub record Diary : Type 0 where
  pub house : Inn
  pub history : History

-- the act that a call logs
abbrev pub act_of : Call → Act
act_of (Do command quoted) = DoAct command
act_of (Publish board least) = PublishAct (arc_value board).position
act_of Enrol = EnrolAct
act_of Leave = LeaveAct

-- the certificate that a call logs
abbrev pub certificate_of : Call → Option Claim
certificate_of (Publish board least) = Some (arc_value board).certificate
certificate_of _ = None

-- the line that a call logs
abbrev pub line_of : ℕ → Call → Reply → Line
line_of caller call reply =
    record { entry = record { caller = caller; act = act_of call; reply = reply }; certificate = certificate_of call }

-- a quote is right at its position, and goes with a Group alone
abbrev pub IsQuoteFor : Inn → History → Command → Quoted → Type 0
IsQuoteFor h H (Group span rooms amount) q =
    (q.position ≤ length H) × IsDisplacement (instance_at h H q.position) span (h.limits.unit * rooms) q.displacement
IsQuoteFor h H _ q = ⊥

-- the quote, if there is one, is right
abbrev pub IsQuoteRight : Inn → History → Command → Option Quoted → Type 0
IsQuoteRight h H command quoted = MatchOption quoted (Unit {0}) (IsQuoteFor h H command)

-- what goes with the call is right
abbrev pub IsCallRight : Inn → History → Call → Type 0
IsCallRight h H (Do command quoted) = IsQuoteRight h H command quoted
IsCallRight h H (Publish board least) =
    ((arc_value board).position ≤ length H) × IsCertificateOf (instance_at h H (arc_value board).position) (arc_value board).certificate × (1 ≤ least)
IsCallRight h H _ = Unit {0}

-- the conditions of a call: its caller may make it, its numbers are in range, and what goes with it is right
pub record MayCall (b : Diary) (caller : ℕ) (call : Call) : Type 0 where
  pub caller_may : IsTrue (may_log b.history caller (act_of call))
  pub in_range : IsTrue (is_in_range b.house (act_of call))
  pub is_right : IsCallRight b.house b.history call

-- the refusal, where the test holds
abbrev pub refuse_if : Bool → Answer → Option Answer
refuse_if b answer = if b then Some answer else None

-- a Group needs a quote with no change after it
abbrev pub quote_refusal : History → Option Quoted → Option Answer
quote_refusal H None = Some Unquoted
quote_refusal H (Some q) = refuse_if (nat_le 1 (changes_after H q.position)) (Stale (changes_after H q.position))

-- the refusal of a command where the history is not full
abbrev pub command_refusal : Inn → History → Command → Option Quoted → Option Answer
command_refusal h H (Book stay) quoted =
    refuse_if (nat_le h.limits.stale_after (changes_after H (last_position H))) (Behind (last_position H) (changes_after H (last_position H)))
command_refusal h H (Group span rooms amount) quoted =
    if is_some (first_short (rooms_left_at h H) span rooms) then None else quote_refusal H quoted
command_refusal h H _ quoted = None

-- the refusal of a vector for a position
abbrev pub publish_refusal : Inn → History → ℕ → ℕ → Option Answer
publish_refusal h H position least =
    if nat_lt (changes_between H (last_position H) position) least
    then Some (Superseded (last_position H) (changes_between H (last_position H) position))
    else refuse_if (vectors H == h.limits.publications) PublicationsFull

-- the one refusal whose condition holds, if there is one; a full history comes first
abbrev pub refusal : Inn → History → Call → Option Answer
refusal h H (Do command quoted) =
    if commands H == h.limits.entries then Some HistoryFull else command_refusal h H command quoted
refusal h H (Publish board least) = publish_refusal h H (arc_value board).position least
refusal h H _ = None

-- the call is logged with the reply of its moment
pub record IsLogged (old new : Diary) (caller : ℕ) (call : Call) (answer : Answer) : Type 0 where
  pub reply : Reply
  pub answer_is : answer ≡ Logged reply
  pub replies : IsReply old.house old.history caller (act_of call) reply
  pub adds : new ≡ record { house = old.house; history = old.history ++ line_of caller call reply ∷ [] }

-- the call is refused, and nothing has changed
abbrev pub IsRefused : Diary → Diary → Answer → Answer → Type 0
IsRefused old new answer refused = (answer ≡ refused) × (new ≡ old)

-- a call is refused exactly where a refusal's condition holds, and else logged
abbrev pub IsAnswered : Diary → Diary → ℕ → Call → Answer → Type 0
IsAnswered old new caller call answer =
    MatchOption (refusal old.house old.history call) (IsLogged old new caller call answer) (IsRefused old new answer)

-- the line of an act that does not publish
abbrev pub plain_line : ℕ → Act → Reply → Line
plain_line caller act reply = record { entry = record { caller = caller; act = act; reply = reply }; certificate = None }

-- the first line of a history: the opener's vector
abbrev pub opening_line : Posted → Line
opening_line board = published_line 0 board 0

-- a command may be logged: its caller may act, its numbers are in range, and the history is not full
pub record MayDo (b : Diary) (caller : ℕ) (command : Command) : Type 0 where
  pub caller_may : IsTrue (may_log b.history caller (DoAct command))
  pub in_range : IsTrue (is_in_range b.house (DoAct command))
  pub not_full : (commands b.history ≡ b.house.limits.entries) → ⊥

-- a command that may be logged is refused exactly where a refusal's condition holds, and else logged
abbrev pub IsDone : Diary → Diary → ℕ → Command → Option Quoted → Answer → Type 0
IsDone old new caller command quoted answer =
    MatchOption (command_refusal old.house old.history command quoted) (IsLogged old new caller (Do command quoted) answer) (IsRefused old new answer)
