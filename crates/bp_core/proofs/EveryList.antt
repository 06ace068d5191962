-- Whatever list of calls that meet their conditions is made, the history is legal.
use Rattle.std.proofs.Common.{
  ◌≡◌,
  ℕ,
  ◌≤◌,
  refl,
  sym,
  subst,
  ◌∙◌,
  arith,
  Bool,
  true,
  false,
  cond,
  ◌==◌,
  nat_lt,
  IsTrue,
  List,
  [],
  ◌∷◌,
  Option,
  Some,
  None,
  MatchOption,
}
use Rattle.std.specs.Arc.{arc_value}
use Rattle.std.proofs.lemmas.Bool.{eq-eqb, lt-ltb, ltb-false, leb-false}
use Rattle.bp_types.specs.declared.command.Command.{Command}
use Rattle.bp_types.specs.declared.command.Command.TheVariants.{Book, Cancel, Reforecast, Reprice, Resize, Group}
use Rattle.bp_types.specs.declared.command.Quoted.{Quoted}
use Rattle.bp_types.specs.House.{Inn}
use Rattle.bp_core.specs.declared.line.Act.TheVariants.{Do as DoAct}
use Rattle.bp_core.specs.declared.line.Reply.{Reply}
use Rattle.bp_core.specs.declared.line.Line.{Line}
use Rattle.bp_core.specs.declared.call.Call.{Call}
use Rattle.bp_core.specs.declared.call.Call.TheVariants.{Do, Publish, Enrol, Leave}
use Rattle.bp_core.specs.declared.call.Answer.{Answer}
use Rattle.bp_core.specs.declared.call.Answer.TheVariants.{HistoryFull, Superseded, PublicationsFull}
use Rattle.bp_core.specs.declared.calls.Made.{Made}
use Rattle.bp_core.specs.Acting.{Diary, MayCall, IsLogged, IsRefused, IsAnswered, refusal, command_refusal, act_of, line_of, plain_line}
use Rattle.bp_core.specs.Answer.{IsReply}
use Rattle.bp_core.specs.Calls.{MayMakeAll, AreAnswered, opened_by}
use Rattle.bp_core.specs.Changes.{changes_between, changes_after}
use Rattle.bp_core.specs.Laws.{EveryListIsLegal}
use Rattle.bp_core.specs.Legal.{IsLegal, IsLegalLine, is_fresh}
use Rattle.bp_core.specs.Lines.{History, commands, vectors, last_position}
use Rattle.bp_core.proofs.Effects.{opened}
use Rattle.bp_core.proofs.Enrolling.{enrol_is_legal, leave_is_legal}
use Rattle.bp_core.proofs.InStepMore.{legal_more}
use Rattle.bp_core.proofs.Openings.{opening_history_is_legal}
use Rattle.bp_core.proofs.Publishing.{publish_is_legal}
use Rattle.bp_core.proofs.Setting.{not_full_allowed}
use Rattle.bp_core.proofs.Sound.{keeps_limits, sound_now}

-- where there is no refusal, its test fails
not_refused : (b : Bool) (answer : Answer) (rest : Option Answer) → cond b (Some answer) rest ≡ None → (b ≡ false) × (rest ≡ None)
not_refused true answer rest none = absurd (cc)
not_refused false answer rest none = (refl, none)

differs : (a b : ℕ) → (a == b) ≡ false → (a ≡ b) → ⊥
differs a b ne same = let e : true ≡ false = sym (eq-eqb a b same) ∙ ne in (cc)

fresh : (h : Inn) (H : History) (command : Command) (quoted : Option Quoted) → command_refusal h H command quoted ≡ None → IsTrue (is_fresh h H (DoAct command))
fresh h H (Book stay) quoted none = lt-ltb _ _ (leb-false h.limits.stale_after (changes_after H (last_position H)) (not_refused _ _ _ none).0)
fresh h H (Cancel nth) quoted none = refl
fresh h H (Reforecast stay count) quoted none = refl
fresh h H (Reprice stay rate) quoted none = refl
fresh h H (Resize night rooms) quoted none = refl
fresh h H (Group span rooms amount) quoted none = refl

-- what is not refused may stand there
logged_is_legal : (h : Inn) (H : History) (caller : ℕ) (call : Call) (reply : Reply) → IsLegal h H → MayCall (record { house = h; history = H }) caller call →
    refusal h H call ≡ None → IsReply h H caller (act_of call) reply → IsLegalLine h H (line_of caller call reply)
logged_is_legal h H caller (Do command quoted) reply legal may none replies =
    let parts = not_refused (commands H == h.limits.entries) HistoryFull (command_refusal h H command quoted) none in
    record {
      opening = opened h H (plain_line caller (DoAct command) reply) legal;
      caller = may.caller_may;
      range = may.in_range;
      limit = not_full_allowed h H legal (differs _ _ parts.0);
      behind = fresh h H command quoted parts.1;
      position = refl;
      certificate = refl;
      reply = replies;
    }
logged_is_legal h H caller (Publish board least) reply legal may none replies =
    let position : ℕ = (arc_value board).position in
    let changes : ℕ = changes_between H (last_position H) position in
    let parts = not_refused (nat_lt changes least) (Superseded (last_position H) changes) _ none in
    let full = not_refused (vectors H == h.limits.publications) PublicationsFull None parts.1 in
    let newer : 1 ≤ changes_between H (last_position H) position = omega (arith, may.is_right.2, ltb-false changes least parts.0) in
    let P : Reply → Type 0 = λ r. IsLegalLine h H (line_of caller (Publish board least) r) in
    subst P (sym replies) (publish_is_legal h H caller (arc_value board) legal may.caller_may may.is_right.0 may.is_right.1 newer (differs _ _ full.0))
logged_is_legal h H caller Enrol reply legal may none replies =
    let P : Reply → Type 0 = λ r. IsLegalLine h H (line_of caller Enrol r) in subst P (sym replies) (enrol_is_legal h H caller legal may.caller_may)
logged_is_legal h H caller Leave reply legal may none replies =
    let P : Reply → Type 0 = λ r. IsLegalLine h H (line_of caller Leave r) in subst P (sym replies) (leave_is_legal h H caller legal may.caller_may)

-- the house stays, and the history is legal
pub record StaysLegal (h : Inn) (new : Diary) : Type 0 where
  pub house : new.house ≡ h
  pub legal : IsLegal h new.history

pub answered_is_legal : (old new : Diary) (caller : ℕ) (call : Call) (answer : Answer) → IsLegal old.house old.history → MayCall old caller call →
    IsAnswered old new caller call answer → StaysLegal old.house new
answered_is_legal old new caller call answer legal may is = go (refusal old.house old.history call) refl is
  where
    go : (o : Option Answer) → refusal old.house old.history call ≡ o → MatchOption o (IsLogged old new caller call answer) (IsRefused old new answer) →
        StaysLegal old.house new
    go None none logged =
        let P : Diary → Type 0 = λ b. StaysLegal old.house b in
        let x : Line = line_of caller call logged.reply in
        subst P (sym logged.adds)
        (record {
          house = refl;
          legal =
              legal_more old.house old.history x legal (logged_is_legal old.house old.history caller call logged.reply legal may none logged.replies);
        })
    go (Some refused) some same = let P : Diary → Type 0 = λ b. StaysLegal old.house b in subst P (sym same.1) (record { house = refl; legal = legal })

all_legal : (h : Inn) (old new : Diary) (calls : List Made) (answers : List Answer) → StaysLegal h old → MayMakeAll old calls →
    AreAnswered old new calls answers → StaysLegal h new
all_legal h old new [] [] before may is = let P : Diary → Type 0 = λ b. StaysLegal h b in subst P (sym is) before
all_legal h old new [] (answer ∷ answers) before may is = absurd is
all_legal h old new (made ∷ calls) [] before may is = absurd is
all_legal h old new (made ∷ calls) (answer ∷ answers) before may is =
    let P : Inn → Type 0 = λ g. IsLegal g old.history in
    let after = answered_is_legal old is.0 made.caller made.call answer (subst P (sym before.house) before.legal) may.0 is.1 in
    let Q : Inn → Type 0 = λ g. IsLegal g is.0.history in
    all_legal h is.0 new calls answers (record { house = after.house ∙ before.house; legal = subst Q before.house after.legal }) (may.1 is.0 answer is.1) is.2

pub every_list_is_legal : EveryListIsLegal
every_list_is_legal h board calls answers new house at certifies may are =
    let all = all_legal h (opened_by h board) new calls answers (record { house = refl; legal = opening_history_is_legal h board house at certifies })
    may are in
    record { house = all.house; legal = all.legal; keeps_limits = keeps_limits h new.history house (sound_now h new.history house all.legal) }
