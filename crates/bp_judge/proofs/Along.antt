-- What goes along a history goes along each longer one.
use Rattle.std.proofs.Common.{
  ◌≡◌,
  ℕ,
  ◌∙◌,
  refl,
  sym,
  subst,
  ap,
  arith,
  true,
  false,
  [],
  ◌∷◌,
  ◌++◌,
  length,
  Option,
  Some,
  None,
  MatchOption,
  unwrap_or,
  length-append,
}
use Rattle.std.proofs.lemmas.List.{take-append-le}
use Rattle.bp_types.specs.House.{Inn}
use Rattle.bp_types.specs.declared.command.Command.{Command}
use Rattle.bp_types.specs.declared.command.Quoted.{Quoted}
use Rattle.bp_core.specs.declared.line.Act.TheVariants.{Do as DoAct}
use Rattle.bp_core.specs.declared.line.Line.{Line}
use Rattle.bp_core.specs.declared.line.Reply.{Reply}
use Rattle.bp_core.specs.declared.call.Answer.{Answer}
use Rattle.bp_core.specs.declared.call.Call.TheVariants.{Do}
use Rattle.bp_core.specs.Legal.{IsLegal}
use Rattle.bp_core.specs.Acting.{Diary, IsAnswered, IsLogged, IsRefused, refusal, line_of, plain_line}
use Rattle.bp_core.specs.Replying.{Adds}
use Rattle.bp_core.specs.Instance.{instance_of}
use Rattle.bp_core.specs.Lines.{History, last_position, published_position}
use Rattle.bp_core.proofs.Pushes.{last_value-push}
use Rattle.bp_judge.specs.declared.course.Course.{Course}
use Rattle.bp_judge.specs.declared.solved.Solved.{Solved}
use Rattle.bp_judge.specs.declared.trail.Trail.{Trail}
use Rattle.bp_judge.specs.declared.replay.Replay.{Replay}
use Rattle.bp_judge.specs.Courses.{IsCourse}
use Rattle.bp_judge.specs.Searches.{wants_quote, last_quoted}
use Rattle.bp_judge.specs.Trails.{IsSolvedAt, GoesWith, quoted_at}
use Rattle.bp_judge.specs.Replays.{IsReplay}
use Rattle.bp_judge.proofs.Quoting.{quoted_stays, quoted_moves}

course_later : (h : Inn) (H : History) (x : Line) (c : Course) → IsCourse h H c → IsCourse h (H ++ x ∷ []) c
course_later h H x c is = record {
  within = let n = length-append H (x ∷ []) in let w = is.within in omega arith;
  program = is.program ∙ sym (ap (instance_of h) (take-append-le c.position H (x ∷ []) is.within));
  room = is.room;
}

solved_later : (h : Inn) (H : History) (x : Line) (s : Solved) → IsSolvedAt h H s → IsSolvedAt h (H ++ x ∷ []) s
solved_later h H x s is = record { course = course_later h H x s.course is.course; program = is.program; settled = is.settled }

perhaps_later : (h : Inn) (H : History) (x : Line) (o : Option Solved) → MatchOption o (Unit {0}) (IsSolvedAt h H) →
    MatchOption o (Unit {0}) (IsSolvedAt h (H ++ x ∷ []))
perhaps_later h H x None is = is
perhaps_later h H x (Some s) is = solved_later h H x s is

pub goes_later : (h : Inn) (H : History) (x : Line) (t : Trail) → GoesWith h H t → GoesWith h (H ++ x ∷ []) t
goes_later h H x t is = record { course = course_later h H x t.course is.course; solved = perhaps_later h H x t.solved is.solved }

-- a line that does not publish leaves the last vector
last_stays : (H : History) (x : Line) → published_position x.entry.act ≡ None → last_position (H ++ x ∷ []) ≡ last_position H
last_stays H x none = last_value-push (λ (y : Line). published_position y.entry.act) 0 H x ∙ ap (λ (o : Option ℕ). unwrap_or o (last_position H)) none

pub last_moves : (H : History) (x : Line) (position : ℕ) → published_position x.entry.act ≡ Some position → last_position (H ++ x ∷ []) ≡ position
last_moves H x position some = last_value-push (λ (y : Line). published_position y.entry.act) 0 H x ∙ ap (λ (o : Option ℕ). unwrap_or o (last_position H)) some

-- the trail goes on to a line that does not publish
pub replay_later : (old new : Replay) (x : Line) → IsReplay old → new.trail ≡ old.trail →
    new.book ≡ record { house = old.book.house; history = old.book.history ++ x ∷ [] } → IsLegal new.book.house new.book.history →
    published_position x.entry.act ≡ None → wants_quote old.book.house old.book.history x.entry.act ≡ false → IsReplay new
replay_later old new x is trail book legal none skips =
    let H : History = old.book.history in
    let P : Diary → Type 0 = λ d. GoesWith d.house d.history old.trail in
    let goes : GoesWith new.book.house new.book.history old.trail = subst P (sym book) (goes_later old.book.house H x old.trail is.goes) in
    let Q : Trail → Type 0 = λ t. GoesWith new.book.house new.book.history t in
    record {
      legal = legal;
      goes = subst Q (sym trail) goes;
      at = ap (λ (t : Trail). t.course.position) trail ∙ is.at ∙ sym (ap (λ (d : Diary). last_position d.history) book ∙ last_stays H x none);
      last = ap quoted_at trail ∙ is.last ∙ sym (ap (λ (d : Diary). last_quoted d.house d.history) book ∙ quoted_stays old.book.house H x skips);
    }

-- and to what a command was answered that wants no quote
pub answered_replay : (old : Replay) (new : Diary) (caller : ℕ) (command : Command) (quoted : Option Quoted) (answer : Answer) → IsReplay old →
    IsAnswered old.book new caller (Do command quoted) answer → IsLegal new.house new.history →
    (refusal old.book.house old.book.history (Do command quoted) ≡ None → wants_quote old.book.house old.book.history (DoAct command) ≡ false) →
    IsReplay (record { book = new; trail = old.trail })
answered_replay old new caller command quoted answer is answered legal skips = go (refusal old.book.house old.book.history (Do command quoted)) refl answered
  where
    go : (o : Option Answer) → refusal old.book.house old.book.history (Do command quoted) ≡ o →
        MatchOption o (IsLogged old.book new caller (Do command quoted) answer) (IsRefused old.book new answer) →
        IsReplay (record { book = new; trail = old.trail })
    go None e l = replay_later old (record { book = new; trail = old.trail }) (line_of caller (Do command quoted) l.reply) is refl l.adds legal refl (skips e)
    go (Some a) e r = let P : Diary → Type 0 = λ d. IsReplay (record { book = d; trail = old.trail }) in subst P (sym r.1) is

-- and to a Group with a quote, with the solver that found it
pub quoted_replay : (old : Replay) (new : Diary) (trail : Trail) (caller : ℕ) (command : Command) (reply : Reply) → IsReplay old →
    GoesWith old.book.house old.book.history trail → trail.course ≡ old.trail.course → quoted_at trail ≡ Some (length old.book.history) →
    wants_quote old.book.house old.book.history (DoAct command) ≡ true → Adds old.book new caller command reply → IsLegal new.house new.history →
    IsReplay (record { book = new; trail = trail })
quoted_replay old new trail caller command reply is goes same at wants adds legal =
    let h : Inn = old.book.house in
    let H : History = old.book.history in
    let x : Line = plain_line caller (DoAct command) reply in
    let P : Diary → Type 0 = λ d. GoesWith d.house d.history trail in
    record {
      legal = legal;
      goes = subst P (sym adds.line) (goes_later h H x trail goes);
      at = ap (λ (c : Course). c.position) same ∙ is.at ∙ sym (ap (λ (d : Diary). last_position d.history) adds.line ∙ last_stays H x refl);
      last = at ∙ sym (ap (λ (d : Diary). last_quoted d.house d.history) adds.line ∙ quoted_moves h H x wants);
    }
