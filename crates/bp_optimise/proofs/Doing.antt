-- What an actor's looks and calls leave.
use Rattle.std.proofs.Common.{
  ◌≡◌,
  ℕ,
  ◌<◌,
  ◌≤◌,
  Bool,
  true,
  false,
  cond,
  ◌&&◌,
  nat_lt,
  ◌==◌,
  [],
  ◌∷◌,
  ◌++◌,
  length,
  Some,
  MatchOption,
  refl,
  sym,
  ap,
  subst,
  ◌∙◌,
  arith,
  append-nil,
  length-append,
}
use Rattle.std.specs.Arc.{arc_value}
use Rattle.std.proofs.lemmas.List.Elements.{All-nil, All-cons, filter_map-append}
use Rattle.std.proofs.lemmas.Bool.{ltb-true, ltb-false, eqb-true}
use Rattle.bp_types.specs.House.{Inn}
use Rattle.bp_types.specs.Claim.{Claim}
use Rattle.bp_types.specs.Optimum.{AreLeastPrices}
use Rattle.bp_turn.specs.Prefix.{IsPrefix}
use Rattle.bp_core.specs.declared.line.Line.{Line}
use Rattle.bp_core.specs.declared.line.Act.TheVariants.{Publish as PublishAct}
use Rattle.bp_core.specs.declared.line.Reply.{Reply}
use Rattle.bp_core.specs.declared.call.Call.{Call}
use Rattle.bp_core.specs.declared.call.Call.TheVariants.{Do, Publish, Enrol, Leave}
use Rattle.bp_core.specs.declared.call.Answer.{Answer}
use Rattle.bp_core.specs.declared.call.Answer.TheVariants.{Logged, Superseded, PublicationsFull}
use Rattle.bp_core.specs.Lines.{History, calls, is_by, is_publish, command_of, last_position, vectors}
use Rattle.bp_core.specs.Changes.{changes_between}
use Rattle.bp_core.specs.Acting.{act_of, certificate_of, line_of, IsLogged, IsRefused, IsAnswered, refuse_if}
use Rattle.bp_core.specs.Legal.{IsLegal}
use Rattle.bp_desk.specs.Passes.{PassState}
use Rattle.bp_desk.specs.Calling.{IsCalled, diary}
use Rattle.bp_core.proofs.Growing.{instance_stays}
use Rattle.bp_desk.proofs.Answered.{by_answer, calls_push}
use Rattle.bp_optimise.specs.Following.{HasLooked, HasOwn, IsOffered, AsksFor}
use Rattle.bp_optimise.proofs.Leading.{prefix_on, adds_turns, looked_not}
use Rattle.bp_optimise.proofs.Rounding.{called_begins}
use Rattle.bp_optimise.specs.Vectors.{IsLeastVector, OwnVectors}
use Rattle.bp_optimise.specs.Acts.{HasActed, commands_in}
use Rattle.bp_optimise.proofs.Owning.{own_push, own_longer}

abbrev pub NoCommand : PassState → PassState → Type 0
NoCommand old new = commands_in new.calls ≡ commands_in old.calls

-- a look
pub look_acts : (least : ℕ) (old new : PassState) → HasLooked old new → HasActed least old new
look_acts least old new l = record {
  begins = l.begins;
  desk = l.desk;
  house = l.house;
  caller = l.caller;
  free = l.free;
  ended = l.ended;
  calls = ([], l.calls ∙ sym (append-nil old.calls));
  turns = l.turns;
  keeps = λ a.
      let own : HasOwn new = l.own a.own in
      let same : calls new.seen old.caller ≡ calls old.seen old.caller = subst (λ c. calls new.seen c ≡ new.calls) l.caller own ∙ l.calls ∙ sym a.own in
      let vs : OwnVectors old.house least new.seen old.caller = own_longer old.house least old.caller old.seen new.seen l.begins same a.vectors in
      record {
        legal = l.legal a.legal;
        own = own;
        vectors = subst (λ h. OwnVectors h least new.seen new.caller) (sym l.house) (subst (λ c. OwnVectors old.house least new.seen c) (sym l.caller) vs);
      };
}

pub acts_again : (least : ℕ) (a b c : PassState) → HasActed least a b → HasActed least b c → HasActed least a c
acts_again least a b c x y = record {
  begins = prefix_on Line a.seen b.seen c.seen x.begins y.begins;
  desk = y.desk ∙ x.desk;
  house = y.house ∙ x.house;
  caller = y.caller ∙ x.caller;
  free = y.free ∙ x.free;
  ended = y.ended ∙ x.ended;
  calls = prefix_on Line a.calls b.calls c.calls x.calls y.calls;
  turns = adds_turns a b c y.begins x.turns y.turns;
  keeps = λ k. y.keeps (x.keeps k);
}

pub acts_not : (least : ℕ) (p : PassState) → HasActed least p p
acts_not least p = look_acts least p p (looked_not p)

pub commands_push : (es : History) (x : Line) → commands_in (es ++ x ∷ []) ≡ commands_in es ++ commands_in (x ∷ [])
commands_push es x = filter_map-append (λ (y : Line). command_of y.entry.act) es (x ∷ [])

-- a call, where a vector that it logs is as it must be
pub call_acts : (least : ℕ) (old new : PassState) (call : Call) (answer : Answer) (c : IsCalled old new call answer)
    → ((reply : Reply) → answer ≡ Logged reply → is_publish (line_of old.caller call reply) ≡ true →
    IsLeastVector old.house least c.found (line_of old.caller call reply)) → HasActed least old new
call_acts least old new call answer c vector =
    let house : new.house ≡ old.house = ap (λ (p : PassState). p.house) c.pass in
    let caller : new.caller ≡ old.caller = ap (λ (p : PassState). p.caller) c.pass in
    let made : new.calls ≡ calls new.seen old.caller = ap (λ (p : PassState). p.calls) c.pass in
    let turns : new.turns ≡ old.turns ++ length c.found ∷ [] = ap (λ (p : PassState). p.turns) c.pass in
    let begins = called_begins old new call answer c in
    let le : length c.found ≤ length new.seen =
    by_answer (diary old.house c.found) (diary old.house new.seen) old.caller call answer (length c.found ≤ length new.seen) c.answered
    (λ l. let n = ap (λ d. length d.history) l.adds in omega (arith, n, length-append c.found (line_of old.caller call l.reply ∷ [])))
    (λ off same. let n = ap (λ d. length d.history) same in omega (arith, n)) in
    let more : IsPrefix old.calls new.calls =
    by_answer (diary old.house c.found) (diary old.house new.seen) old.caller call answer (IsPrefix old.calls new.calls) c.answered
    (λ l. (
      line_of old.caller call l.reply ∷ [],
      made ∙ ap (λ d. calls d.history old.caller) l.adds ∙ calls_push c.found old.caller call l.reply ∙
          ap (λ es. es ++ line_of old.caller call l.reply ∷ []) c.own,
    ))
    (λ off same. ([], made ∙ ap (λ d. calls d.history old.caller) same ∙ c.own ∙ sym (append-nil old.calls))) in
    record {
      begins = begins;
      desk = ap (λ (p : PassState). p.desk) c.pass;
      house = house;
      caller = caller;
      free = ap (λ (p : PassState). p.free) c.pass;
      ended = ap (λ (p : PassState). p.ended) c.pass;
      calls = more;
      turns = (length c.found ∷ [], turns, All-cons (λ t. t ≤ length new.seen) (length c.found) [] le (All-nil (λ t. t ≤ length new.seen)));
      keeps = λ a.
          let found : OwnVectors old.house least c.found old.caller =
          own_longer old.house least old.caller old.seen c.found c.begins (c.own ∙ sym a.own) a.vectors in
          let vs : OwnVectors old.house least new.seen old.caller =
          by_answer (diary old.house c.found) (diary old.house new.seen) old.caller call answer (OwnVectors old.house least new.seen old.caller) c.answered
          (λ l.
          let x = line_of old.caller call l.reply in
          let e : new.seen ≡ c.found ++ x ∷ [] = ap (λ d. d.history) l.adds in
          subst (λ H. OwnVectors old.house least H old.caller) (sym e)
          (own_push old.house least c.found x old.caller found (λ t. vector l.reply l.answer_is (second (is_by old.caller x) (is_publish x) t))))
          (λ off same. subst (λ H. OwnVectors old.house least H old.caller) (sym (ap (λ d. d.history) same)) found) in
          record {
            legal = subst (λ h. IsLegal h new.seen) (sym house) c.legal;
            own = ap (calls new.seen) caller ∙ sym made;
            vectors = subst (λ h. OwnVectors h least new.seen new.caller) (sym house) (subst (λ n. OwnVectors old.house least new.seen n) (sym caller) vs);
          };
    }
  where
    second : (a b : Bool) → (a && b) ≡ true → b ≡ true
    second true b e = e
    second false b e = absurd (cc)

-- a publication is superseded, or finds no number left, or is logged
pub by_publication : (P : Type 0) (h : Inn) (found seen : History) (caller : ℕ) (call : Call) (position least : ℕ) (answer : Answer) →
    act_of call ≡ PublishAct position → AsksFor least call
    → IsAnswered (diary h found) (diary h seen) caller call answer
    → (((p changes : ℕ) → answer ≡ Superseded p changes → changes_between found (last_position found) position < least → seen ≡ found → P) ×
    ((answer ≡ PublicationsFull) → vectors found ≡ h.limits.publications → seen ≡ found → P)
    × ((reply : Reply) → answer ≡ Logged reply → least ≤ changes_between found (last_position found) position →
    seen ≡ found ++ line_of caller call reply ∷ [] → P))
    → P
by_publication P h found seen caller (Do command quoted) position least answer acts asks is k = absurd asks
by_publication P h found seen caller Enrol position least answer acts asks is k = absurd asks
by_publication P h found seen caller Leave position least answer acts asks is k = absurd asks
by_publication P h found seen caller (Publish board n) position least answer acts asks is k =
    older (nat_lt (changes_between found (last_position found) (arc_value board).position) n) refl is
  where
    at : (arc_value board).position ≡ position
    at = cc

    changes : ℕ
    changes = changes_between found (last_position found) (arc_value board).position

    older : (b : Bool) → nat_lt changes n ≡ b
        → MatchOption (cond b (Some (Superseded (last_position found) changes)) (refuse_if (vectors found == h.limits.publications) PublicationsFull))
        (IsLogged (diary h found) (diary h seen) caller (Publish board n) answer) (IsRefused (diary h found) (diary h seen) answer) → P
    older true e r =
        let few : changes < n = ltb-true changes n e in
        k.0 (last_position found) changes r.0 (subst (λ p. changes_between found (last_position found) p < least) at (subst (λ m. changes < m) asks few))
        (ap (λ d. d.history) r.1)
    older false e m = full (vectors found == h.limits.publications) refl m
      where
        full : (b : Bool) → (vectors found == h.limits.publications) ≡ b
            → MatchOption (refuse_if b PublicationsFull) (IsLogged (diary h found) (diary h seen) caller (Publish board n) answer)
            (IsRefused (diary h found) (diary h seen) answer) → P
        full true f r = k.1 r.0 (eqb-true (vectors found) h.limits.publications f) (ap (λ d. d.history) r.1)
        full false f l =
            let many : n ≤ changes = ltb-false changes n e in
            k.2 l.reply l.answer_is (subst (λ p. least ≤ changes_between found (last_position found) p) at (subst (λ m. m ≤ changes) asks many))
            (ap (λ d. d.history) l.adds)

-- an offer
pub offer_acts : (least position : ℕ) (old new : PassState) (answer : Answer) → IsOffered least position old new answer → position ≤ length old.seen →
    HasActed least old new × NoCommand old new
offer_acts least position old new answer o within =
    let c = o.called in
    let vector : (reply : Reply) → answer ≡ Logged reply → is_publish (line_of old.caller o.call reply) ≡ true →
    IsLeastVector old.house least c.found (line_of old.caller o.call reply) = λ reply logged publishes.
    by_publication (IsLeastVector old.house least c.found (line_of old.caller o.call reply))
    old.house c.found new.seen old.caller o.call position least answer o.publishes o.least_is c.answered (
      (λ p changes e few same. absurd (let f : Logged reply ≡ Superseded p changes = sym logged ∙ e in cc)),
      (λ e full same. absurd (let f : Logged reply ≡ PublicationsFull = sym logged ∙ e in cc)),
      (λ r e many grown.
          let claim = claim_of o.call o.publishes in
          let e = instance_stays old.house old.seen c.found position c.begins within in
          record {
            position = position;
            publishes = o.publishes;
            claim = claim.0;
            claims = claim.1;
            prices = subst (λ p. AreLeastPrices p claim.0.prices) (sym e) (o.prices claim.0 claim.1);
            enough = many;
          }),
    ) in
    (call_acts least old new o.call answer c vector, no_command)
  where
    claim_of : (call : Call) → act_of call ≡ PublishAct position → (claim : Claim) × (certificate_of call ≡ Some claim)
    claim_of (Publish board n) e = ((arc_value board).certificate, refl)
    claim_of (Do command quoted) e = absurd (cc)
    claim_of Enrol e = absurd (cc)
    claim_of Leave e = absurd (cc)

    made : new.calls ≡ calls new.seen old.caller
    made = ap (λ (p : PassState). p.calls) o.called.pass

    none : (call : Call) (reply : Reply) → act_of call ≡ PublishAct position → commands_in (line_of old.caller call reply ∷ []) ≡ []
    none (Publish board n) reply e = refl
    none (Do command quoted) reply e = absurd (cc)
    none Enrol reply e = absurd (cc)
    none Leave reply e = absurd (cc)

    no_command : NoCommand old new
    no_command = by_answer (diary old.house o.called.found) (diary old.house new.seen) old.caller o.call answer (NoCommand old new) o.called.answered
        (λ l. ap commands_in (made ∙ ap (λ d. calls d.history old.caller) l.adds ∙ calls_push o.called.found old.caller o.call l.reply ∙
        ap (λ es. es ++ line_of old.caller o.call l.reply ∷ []) o.called.own)
        ∙ commands_push old.calls (line_of old.caller o.call l.reply) ∙ ap (λ cs. commands_in old.calls ++ cs) (none o.call l.reply o.publishes) ∙
        append-nil (commands_in old.calls))
        (λ off same. ap commands_in (made ∙ ap (λ d. calls d.history old.caller) same ∙ o.called.own))
