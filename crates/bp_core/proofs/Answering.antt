-- What a method that logs a command owes.
use Rattle.std.proofs.Common.{◌≡◌, ℕ, refl, ap, sym, subst, List, [], ◌∷◌, ◌++◌, Option, Some, None, MatchOption}
use Rattle.bp_types.specs.House.{Inn}
use Rattle.bp_types.specs.declared.command.Command.{Command}
use Rattle.bp_types.specs.declared.command.Quoted.{Quoted}
use Rattle.bp_core.specs.declared.line.Act.TheVariants.{Do as DoAct}
use Rattle.bp_core.specs.declared.line.Reply.{Reply}
use Rattle.bp_core.specs.declared.call.Answer.{Answer}
use Rattle.bp_core.specs.declared.call.Answer.TheVariants.{Logged as LoggedReply}
use Rattle.bp_core.specs.declared.call.Call.TheVariants.{Do}
use Rattle.bp_types.specs.declared.change.Change.{Change}
use Rattle.bp_core.specs.declared.line.Line.{Line}
use Rattle.bp_core.specs.Log.{LogView}
use Rattle.bp_core.specs.Lines.{History}
use Rattle.bp_core.specs.Answer.{IsCommandReply}
use Rattle.bp_core.specs.Acting.{Diary, IsLogged, IsRefused, IsDone, command_refusal, plain_line}

-- a command is logged with its reply
pub command_is_logged : (h : Inn) (H G : History) (now : Diary) (caller : ℕ) (command : Command) (quoted : Option Quoted) (reply : Reply) (answer : Answer) →
    record { house = h; history = H } ≡ now →
    answer ≡ LoggedReply reply → IsCommandReply h H caller command reply → G ≡ H ++ plain_line caller (DoAct command) reply ∷ [] →
    IsLogged now (record { house = h; history = G }) caller (Do command quoted) answer
command_is_logged h H G now caller command quoted reply answer view is replies adds =
    let P : Diary → Type 0 = λ b. IsLogged b (record { house = h; history = G }) caller (Do command quoted) answer in
    let here : IsLogged (record { house = h; history = H }) (record { house = h; history = G }) caller (Do command quoted) answer = record {
      reply = reply;
      answer_is = is;
      replies = replies;
      adds = ap (λ (l : History). record { house = h; history = l }) adds;
    } in
    subst P view here

-- a log with one line more, and what it changes
abbrev pub pushed : LogView → Line → List Change → LogView
pushed log x d = record { lines = log.lines ++ x ∷ []; deltas = log.deltas ++ d ∷ []; line_room = log.line_room; board_room = log.board_room }

-- a command that is not refused is logged
pub done_logged : (old new : Diary) (caller : ℕ) (command : Command) (quoted : Option Quoted) (answer : Answer) →
    command_refusal old.house old.history command quoted ≡ None → IsLogged old new caller (Do command quoted) answer →
    IsDone old new caller command quoted answer
done_logged old new caller command quoted answer none logged =
    let P : Option Answer → Type 0 = λ o. MatchOption o (IsLogged old new caller (Do command quoted) answer) (IsRefused old new answer) in
    subst P (sym none) logged

-- a command that is refused gets the refusal, and nothing has changed
pub done_refused : (old new : Diary) (caller : ℕ) (command : Command) (quoted : Option Quoted) (answer : Answer) →
    command_refusal old.house old.history command quoted ≡ Some answer → new ≡ old → IsDone old new caller command quoted answer
done_refused old new caller command quoted answer some same =
    let P : Option Answer → Type 0 = λ o. MatchOption o (IsLogged old new caller (Do command quoted) answer) (IsRefused old new answer) in
    subst P (sym some) (refl, same)
