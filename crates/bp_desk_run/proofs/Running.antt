-- The end of a caller, by what it did.
use Rattle.std.proofs.Common.{
  ◌≡◌,
  ◌≢◌,
  ℕ,
  ◌<◌,
  ◌≤◌,
  Bool,
  true,
  false,
  cond,
  List,
  [],
  ◌∷◌,
  ◌++◌,
  length,
  take,
  Option,
  Some,
  None,
  refl,
  sym,
  ap,
  subst,
  ◌∙◌,
  arith,
}
use Rattle.atomic_table.specs.Seated.{TableId}
use Rattle.bp_types.specs.House.{Inn}
use Rattle.bp_types.specs.declared.command.Command.{Command}
use Rattle.bp_core.specs.declared.line.Reply.TheVariants.{Done}
use Rattle.bp_core.specs.declared.call.Call.TheVariants.{Leave}
use Rattle.bp_core.specs.Lines.{History}
use Rattle.bp_core.specs.Acting.{line_of}
use Rattle.bp_desk.specs.Passes.{PassState}
use Rattle.bp_optimise.specs.Acts.{IsActor, commands_in}
use Rattle.bp_optimise.specs.Sessions.{IsSession, IsStop}
use Rattle.bp_optimise.specs.Works.{IsWork, HaveLeft}
use Rattle.bp_desk_run.specs.DeskRun.{lead_of}
use Rattle.bp_optimise.specs.declared.sessions.Stop.{Stop}
use Rattle.bp_optimise.specs.declared.sessions.Stop.TheVariants.{Finished, Memory}
use Rattle.bp_desk_run.specs.declared.actor.Actor.{Actor}
use Rattle.bp_desk_run.specs.Endings.{HasWorked, IsEnd, stop_of}
use Rattle.bp_desk_run.specs.Actors.{AreTerms, IsReady, HasRun}

pub same_pass : (p q : PassState) → Some p ≡ Some q → p ≡ q
same_pass p q e = cc

no_command_yet : (desk : TableId) (house : Inn) (sessions number : ℕ) (seen : History) (a : Actor) (r : IsReady desk house sessions number seen a) →
    commands_in r.pass.calls ≡ []
no_command_yet desk house sessions number seen a r = ap commands_in r.enrolled

pub session_ends : (desk : TableId) (house : Inn) (sessions number : ℕ) (seen : History) (a : Actor) (p left : PassState) (done : ℕ) (stop : Stop) (lead : ℕ)
    → IsReady desk house sessions number seen a → a.pass ≡ Some p → p.caller ≤ sessions → lead ≡ lead_of house
    → IsSession lead a.commands.items p left done stop → (left.desk ≡ desk) × IsEnd house sessions number a.commands.items left done stop
session_ends desk house sessions number seen a p left done stop lead r is low terms s =
    let same : r.pass ≡ p = same_pass r.pass p (sym r.pass_is ∙ is) in
    let caller : p.caller ≡ number = subst (λ (q : PassState). q.caller ≡ number) same r.caller in
    let in_house : p.house ≡ house = subst (λ (q : PassState). q.house ≡ house) same r.house_is in
    let none : commands_in p.calls ≡ [] = subst (λ (q : PassState). commands_in q.calls ≡ []) same (no_command_yet desk house sessions number seen a r) in
    let actor : IsActor lead p = subst (λ l. IsActor l p) (sym terms) (subst (IsActor (lead_of house)) same r.actor) in
    let house_is : left.house ≡ house = s.acted.house ∙ in_house in (
      s.acted.desk ∙ subst (λ (q : PassState). q.desk ≡ desk) same r.desk_is,
      record {
        house_is = house_is;
        caller = s.acted.caller ∙ caller;
        actor = subst (λ l. IsActor l left) terms (s.acted.keeps actor);
        none_ended = s.acted.ended ∙ subst (λ (q : PassState). q.ended ≡ []) same r.none_ended;
        earlier = s.earlier;
        last = s.last ∙ ap (λ n. s.earlier ++ line_of n Leave Done ∷ []) caller;
        made = s.made ∙ ap (λ l. l ++ take done a.commands.items) none;
        stops = λ _. subst (λ (h : Inn). IsStop h a.commands.items left.seen done stop) house_is s.stops;
        worked = λ above. absurd (omega (arith, above, low, caller));
      },
    )

pub work_ends : (desk : TableId) (house : Inn) (sessions number : ℕ) (seen : History) (a : Actor) (p left : PassState) (memory : Bool) (lead : ℕ) →
    IsReady desk house sessions number seen a → a.pass ≡ Some p → sessions < p.caller → lead ≡ lead_of house
    → IsWork sessions lead p left memory → (left.desk ≡ desk) × IsEnd house sessions number a.commands.items left 0 (stop_of memory)
work_ends desk house sessions number seen a p left memory lead r is high terms w =
    let same : r.pass ≡ p = same_pass r.pass p (sym r.pass_is ∙ is) in
    let caller : p.caller ≡ number = subst (λ (q : PassState). q.caller ≡ number) same r.caller in
    let in_house : p.house ≡ house = subst (λ (q : PassState). q.house ≡ house) same r.house_is in
    let none : commands_in p.calls ≡ [] = subst (λ (q : PassState). commands_in q.calls ≡ []) same (no_command_yet desk house sessions number seen a r) in
    let actor : IsActor lead p = subst (λ l. IsActor l p) (sym terms) (subst (IsActor (lead_of house)) same r.actor) in (
      w.acted.desk ∙ subst (λ (q : PassState). q.desk ≡ desk) same r.desk_is,
      record {
        house_is = w.acted.house ∙ in_house;
        caller = w.acted.caller ∙ caller;
        actor = subst (λ l. IsActor l left) terms (w.acted.keeps actor);
        none_ended = w.acted.ended ∙ subst (λ (q : PassState). q.ended ≡ []) same r.none_ended;
        earlier = w.earlier;
        last = w.last ∙ ap (λ n. w.earlier ++ line_of n Leave Done ∷ []) caller;
        made = w.no_command ∙ none;
        stops = λ low. absurd (omega (arith, low, high, caller));
        worked = λ above. by_memory memory refl (w.leaves ∙ ap (λ n. w.before ++ line_of n Leave Done ∷ []) caller);
      },
    )
  where
    by_memory : (b : Bool) → memory ≡ b → left.seen ≡ w.before ++ line_of number Leave Done ∷ [] → HasWorked sessions number left (stop_of b)
    by_memory true e leaves = tt
    by_memory false e leaves = (w.before, leaves, w.sessions_left e)
