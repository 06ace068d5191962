-- The opener alone at the desk.
use Rattle.std.proofs.Common.{
  ◌≡◌,
  ◌≢◌,
  ℕ,
  zero,
  suc,
  ◌+◌,
  ◌-◌,
  ◌<◌,
  ◌≤◌,
  Bool,
  true,
  false,
  cond,
  List,
  [],
  ◌∷◌,
  ◌++◌,
  length,
  take,
  drop,
  All,
  Contains,
  Option,
  Some,
  None,
  MatchOption,
  is_some,
  nat_lt,
  ◌==◌,
  refl,
  sym,
  ap,
  subst,
  ◌∙◌,
  arith,
  append-nil,
  append_assoc,
  length-append,
  slice_index_or,
}
use mathlib.Core.Logic.{dite}
use native.Mathlib.Decide.{dec_lt, dec_le, ℕ_discrete}
use Rattle.std.proofs.lemmas.List.Elements.{filter-append}
use Rattle.std.proofs.lemmas.Bool.{ltb-true, ltb-false, eqb-true}
use Rattle.std.specs.Arc.{arc_value}
use Rattle.std.proofs.Math.Seq.{take-length}
use Rattle.bp_types.specs.declared.limits.TheConstants.{CALLERS}
use Rattle.bp_types.specs.House.{Inn}
use Rattle.bp_types.specs.Claim.{Claim}
use Rattle.bp_types.specs.Optimum.{AreLeastPrices}
use Rattle.bp_turn.specs.Prefix.{IsPrefix}
use Rattle.bp_turn.specs.Callers.{numbers_from}
use Rattle.bp_core.specs.declared.line.Act.TheVariants.{Publish as PublishAct}
use Rattle.bp_core.specs.declared.line.Line.{Line}
use Rattle.bp_core.specs.declared.line.Reply.{Reply}
use Rattle.bp_core.specs.declared.line.Reply.TheVariants.{Vector}
use Rattle.bp_core.specs.declared.call.Call.{Call}
use Rattle.bp_core.specs.declared.call.Call.TheVariants.{Do, Publish, Enrol, Leave}
use Rattle.bp_core.specs.declared.call.Answer.{Answer}
use Rattle.bp_core.specs.declared.call.Answer.TheVariants.{Logged, Superseded as LaterThere, PublicationsFull as NoneLeft}
use Rattle.bp_core.specs.Lines.{History, is_by, is_publish, calls, last_position, vectors}
use Rattle.bp_core.specs.Changes.{changes_between, changes_after}
use Rattle.bp_core.specs.Instance.{instance_at}
use Rattle.bp_core.specs.Acting.{act_of, certificate_of, line_of, IsAnswered, IsLogged, IsRefused, refuse_if}
use Rattle.bp_desk.specs.Passes.{PassState, HasAccounts}
use Rattle.bp_desk.specs.Calling.{HasRead, IsCalled, diary}
use Rattle.bp_desk.proofs.Standing.{run_first}
use Rattle.bp_desk.proofs.Answered.{by_answer}
use Rattle.bp_core.proofs.Growing.{instance_stays}
use Rattle.bp_core.proofs.Quietly.{nothing_more}
use Rattle.bp_optimise.specs.Following.{HasLooked, HasOwn, IsOffered, AsksFor}
use Rattle.bp_optimise.specs.Rounds.{HasOffered, IsRound}
use Rattle.bp_optimise.specs.declared.round.Round.{Round}
use Rattle.bp_optimise.specs.declared.round.Round.TheVariants.{Unchanged, Published, Superseded, PublicationsFull}
use Rattle.bp_optimise.proofs.Leading.{prefix_on, prefix_le, looked, looked_again}
use Rattle.bp_optimise.specs.Vectors.{IsLeastVector}
use Rattle.bp_desk_run.specs.Closing.{HasAllBack, IsClosing}
use Rattle.bp_desk_run.proofs.Places.{no_more}

-- among numbers in order stands each of them
pub free_none : (H : History) (a k c : ℕ) → All (λ (n : ℕ). calls H n ≡ []) (numbers_from a k) → a ≤ c → c < a + k → calls H c ≡ []
free_none H a zero c all low high = absurd (omega (arith, low, high))
free_none H a (suc k) c all low high =
    let split : All (λ (n : ℕ). calls H n ≡ []) (a ∷ numbers_from (a + 1) k) =
    subst (All (λ (n : ℕ). calls H n ≡ [])) (run_first a (suc k) k (omega arith)) all in
    dite (ℕ_discrete a c)
    (λ is. subst (λ n. calls H n ≡ []) is (split 0 0 (omega arith)))
    (λ other. free_none H (a + 1) k c (λ i d lt. split (suc i) d (omega (arith, lt))) (omega (arith, low, other)) (omega (arith, high)))

pub ended_calls : (H : History) (ended : List (ℕ × History)) (c : ℕ) (es : History) → All (λ (x : ℕ × History). calls H x.0 ≡ x.1) ended →
    Contains ended (c, es) → calls H c ≡ es
ended_calls H ended c es all (at, lt, is) = subst (λ (x : ℕ × History). calls H x.0 ≡ x.1) is (all at (c, es) lt)

-- a caller above the last has no entry
pub none_above : (most : ℕ) (p : PassState) → HasAllBack most p → HasAccounts p → (c : ℕ) → most < c → calls p.seen c ≡ []
none_above most p b a c high = dite (dec_le CALLERS c)
    (λ le. a.others c le)
    (λ lt. let few = b.few in
    free_none p.seen (most + 1) (CALLERS - (most + 1)) c (subst (All (λ (n : ℕ). calls p.seen n ≡ [])) b.free a.free) (omega (arith, high))
    (omega (arith, lt, few)))

pub all_back : (most : ℕ) (p q : PassState) → HasAllBack most p → q.caller ≡ p.caller → q.free ≡ p.free → q.ended ≡ p.ended → HasAllBack most q
all_back most p q b caller free ended = record {
  opener = caller ∙ b.opener;
  few = b.few;
  free = free ∙ b.free;
  back = λ c low high. let e = b.back c low high in (e.0, subst (λ (l : List (ℕ × History)). Contains l (c, e.0)) (sym ended) e.1);
}

-- all other callers have the calls that they had
pub others_same : (most : ℕ) (p q : PassState) → HasAllBack most p → HasAccounts p → HasAccounts q → q.caller ≡ p.caller → q.free ≡ p.free →
    q.ended ≡ p.ended → (c : ℕ) → c ≢ 0 → calls q.seen c ≡ calls p.seen c
others_same most p q b old new caller free ended c other = dite (dec_lt most c)
    (λ high. none_above most q (all_back most p q b caller free ended) new c high ∙ sym (none_above most p b old c high))
    (λ low.
    let e = b.back c (omega (arith, other)) (omega (arith, low)) in
    ended_calls q.seen p.ended c e.0 (subst (λ (l : List (ℕ × History)). All (λ (x : ℕ × History). calls q.seen x.0 ≡ x.1) l) ended new.ended) e.1 ∙
    sym (ended_calls p.seen p.ended c e.0 old.ended e.1))

no_first : (xs ys : History) → xs ++ ys ≡ [] → xs ≡ []
no_first [] ys e = refl
no_first (x ∷ xs) ys e = absurd (cc)

-- a history between two that have the same calls of a caller
between : (G F H : History) (c : ℕ) → IsPrefix G F → IsPrefix F H → calls H c ≡ calls G c → calls F c ≡ calls G c
between G F H c (a, f) (b, h) same =
    let first : calls F c ≡ calls G c ++ calls a c = ap (λ K. calls K c) f ∙ filter-append (is_by c) G a in
    let second : calls H c ≡ calls F c ++ calls b c = ap (λ K. calls K c) h ∙ filter-append (is_by c) F b in
    let all : calls H c ≡ calls G c ++ (calls a c ++ calls b c) = second ∙ ap (λ l. l ++ calls b c) first ∙ append_assoc (calls G c) (calls a c) (calls b c) in
    let none : calls a c ≡ [] = no_first (calls a c) (calls b c) (no_more (calls G c) (calls a c ++ calls b c) (calls H c) all same) in
    first ∙ ap (λ l. calls G c ++ l) none ∙ append-nil (calls G c)

-- with the same calls of the opener, nothing was logged
pub nothing_logged : (most : ℕ) (p q : PassState) (F : History) → HasAllBack most p → HasAccounts p → HasAccounts q → q.caller ≡ p.caller → q.free ≡ p.free →
    q.ended ≡ p.ended → IsPrefix p.seen F → IsPrefix F q.seen → calls F 0 ≡ p.calls → F ≡ p.seen
nothing_logged most p q F b old new caller free ended begins within own = nothing_more p.seen F begins (λ c. dite (ℕ_discrete c 0)
    (λ z. subst (λ k. calls F k ≡ calls p.seen k) (sym z) (own ∙ sym (subst (λ k. calls p.seen k ≡ p.calls) b.opener old.own)))
    (λ nz. between p.seen F q.seen c begins within (others_same most p q b old new caller free ended c nz)))

-- a publication finds too few changes, or no number left, or is logged
by_offer : (P : Type 0) (h : Inn) (found seen : History) (caller : ℕ) (call : Call) (position least : ℕ) (answer : Answer) →
    act_of call ≡ PublishAct position → AsksFor least call
    → IsAnswered (diary h found) (diary h seen) caller call answer
    → ((changes_between found (last_position found) position < least → P) × ((answer ≡ NoneLeft) → vectors found ≡ h.limits.publications → seen ≡ found → P)
    × ((reply : Reply) → answer ≡ Logged reply → least ≤ changes_between found (last_position found) position →
    seen ≡ found ++ line_of caller call reply ∷ [] → P))
    → P
by_offer P h found seen caller (Do command quoted) position least answer acts asks is k = absurd asks
by_offer P h found seen caller Enrol position least answer acts asks is k = absurd asks
by_offer P h found seen caller Leave position least answer acts asks is k = absurd asks
by_offer P h found seen caller (Publish board n) position least answer acts asks is k =
    older (nat_lt (changes_between found (last_position found) (arc_value board).position) n) refl is
  where
    at : (arc_value board).position ≡ position
    at = cc

    changes : ℕ
    changes = changes_between found (last_position found) (arc_value board).position

    older : (b : Bool) → nat_lt changes n ≡ b
        → MatchOption (cond b (Some (LaterThere (last_position found) changes)) (refuse_if (vectors found == h.limits.publications) NoneLeft))
        (IsLogged (diary h found) (diary h seen) caller (Publish board n) answer) (IsRefused (diary h found) (diary h seen) answer) → P
    older true e r =
        let few : changes < n = ltb-true changes n e in
        k.0 (subst (λ p. changes_between found (last_position found) p < least) at (subst (λ m. changes < m) asks few))
    older false e m = full (vectors found == h.limits.publications) refl m
      where
        full : (b : Bool) → (vectors found == h.limits.publications) ≡ b
            → MatchOption (refuse_if b NoneLeft) (IsLogged (diary h found) (diary h seen) caller (Publish board n) answer)
            (IsRefused (diary h found) (diary h seen) answer) → P
        full true f r = k.1 r.0 (eqb-true (vectors found) h.limits.publications f) (ap (λ d. d.history) r.1)
        full false f l =
            let many : n ≤ changes = ltb-false changes n e in
            k.2 l.reply l.answer_is (subst (λ p. least ≤ changes_between found (last_position found) p) at (subst (λ m. m ≤ changes) asks many))
            (ap (λ d. d.history) l.adds)

claim_of : (call : Call) (position : ℕ) → act_of call ≡ PublishAct position → (claim : Claim) × (certificate_of call ≡ Some claim)
claim_of (Publish board n) position e = ((arc_value board).certificate, refl)
claim_of (Do command quoted) position e = absurd (cc)
claim_of Enrol position e = absurd (cc)
claim_of Leave position e = absurd (cc)

-- what a turn found is what is there afterwards, or a beginning of it
found_within : (old new : PassState) (call : Call) (answer : Answer) (c : IsCalled old new call answer) → IsPrefix c.found new.seen
found_within old new call answer c =
    by_answer (diary old.house c.found) (diary old.house new.seen) old.caller call answer (IsPrefix c.found new.seen) c.answered
    (λ l. (line_of old.caller call l.reply ∷ [], ap (λ d. d.history) l.adds))
    (λ off same. ([], ap (λ d. d.history) same ∙ sym (append-nil c.found)))

-- an offer of the opener's, once all have come back, is refused for want of a number alone
offered_closes : (P : Type 0) (most position : ℕ) (p q : PassState) (answer : Answer) → HasAllBack most p → HasAccounts p → HasAccounts q →
    HasOffered p q position 1 answer
    → ((answer ≡ NoneLeft → vectors p.seen ≡ p.house.limits.publications → q.seen ≡ p.seen → 1 ≤ changes_after p.seen (last_position p.seen) → P)
    × ((x : Line) (reply : Reply) → answer ≡ Logged reply → q.seen ≡ p.seen ++ x ∷ [] → x.entry.caller ≡ 0 → x.entry.act ≡ PublishAct (length p.seen) →
    IsLeastVector p.house 1 p.seen x → P))
    → P
offered_closes P most position p q answer b old new o k =
    let c = o.offered.called in
    let m = o.middle in
    let look : HasLooked p m = looked_again p o.first m (looked p o.first o.looked) o.between in
    let first = looked p o.first o.looked in
    let caller : q.caller ≡ p.caller = ap (λ (s : PassState). s.caller) c.pass ∙ look.caller in
    let free : q.free ≡ p.free = ap (λ (s : PassState). s.free) c.pass ∙ look.free in
    let ended : q.ended ≡ p.ended = ap (λ (s : PassState). s.ended) c.pass ∙ look.ended in
    let zero_is : m.caller ≡ 0 = look.caller ∙ b.opener in
    let within : IsPrefix c.found q.seen = found_within m q o.offered.call answer c in
    let own : calls c.found 0 ≡ p.calls = subst (λ k. calls c.found k ≡ m.calls) zero_is c.own ∙ look.calls in
    let found : c.found ≡ p.seen =
    nothing_logged most p q c.found b old new caller free ended (prefix_on Line p.seen m.seen c.found look.begins c.begins) within own in
    let own_first : calls o.first.seen 0 ≡ p.calls = subst (λ k. calls o.first.seen k ≡ p.calls) b.opener o.looked.own in
    let to_end : IsPrefix o.first.seen q.seen =
    prefix_on Line o.first.seen c.found q.seen (prefix_on Line o.first.seen m.seen c.found o.between.begins c.begins) within in
    let at_first : o.first.seen ≡ p.seen = nothing_logged most p q o.first.seen b old new caller free ended first.begins to_end own_first in
    let at : position ≡ length p.seen = o.caught_up ∙ ap length at_first in
    let enough : 1 ≤ changes_after p.seen (last_position p.seen) = subst (λ H. 1 ≤ changes_after H (last_position H)) at_first o.enough in
    let as_many : changes_between c.found (last_position c.found) position ≡ changes_after p.seen (last_position p.seen) =
    ap (λ H. changes_between H (last_position H) position) found ∙ ap (λ n. changes_between p.seen (last_position p.seen) n) at in
    let house : m.house ≡ p.house = look.house in
    by_offer P m.house c.found q.seen m.caller o.offered.call position 1 answer o.offered.publishes o.offered.least_is c.answered (
      (λ few. absurd (omega (arith, few, as_many, enough))),
      (λ e full same. k.0 e (ap vectors (sym found) ∙ full ∙ ap (λ (h : Inn). h.limits.publications) house) (same ∙ found) enough),
      (λ reply e many grown.
          let x = line_of m.caller o.offered.call reply in
          let claim = claim_of o.offered.call position o.offered.publishes in
          let le = prefix_le o.first.seen m.seen o.between.begins in
          let caught = o.caught_up in
          let seen = instance_stays m.house m.seen c.found position c.begins (omega (arith, caught, le)) in
          let vector : IsLeastVector m.house 1 c.found x = record {
            position = position;
            publishes = o.offered.publishes;
            claim = claim.0;
            claims = claim.1;
            prices = subst (λ i. AreLeastPrices i claim.0.prices) (sym seen) (o.offered.prices claim.0 claim.1);
            enough = many;
          } in
          k.1 x reply e (grown ∙ ap (λ H. H ++ x ∷ []) found) zero_is (o.offered.publishes ∙ ap PublishAct at)
          (subst (λ H. IsLeastVector p.house 1 H x) found (subst (λ h. IsLeastVector h 1 c.found x) house vector))),
    )

-- the round of the opener, once all have come back
pub closes : (most position : ℕ) (p q : PassState) (r : Round) → HasAllBack most p → HasAccounts p → HasAccounts q → IsRound p q position 1 r →
    IsClosing p.house p.seen q.seen r
closes most position p q (Unchanged changes) b old new r =
    let l = looked p q r.0 in
    let own : calls q.seen 0 ≡ p.calls = subst (λ k. calls q.seen k ≡ p.calls) b.opener r.0.own in
    let same : q.seen ≡ p.seen = nothing_logged most p q q.seen b old new l.caller l.free l.ended l.begins ([], sym (append-nil q.seen)) own in
    let few = r.2 in let is = r.1 in
    (same, subst (λ K. changes_after K (last_position K) ≡ 0) same (omega (arith, few, is)))
closes most position p q (Published number) b old new r =
    offered_closes (IsClosing p.house p.seen q.seen (Published number)) most position p q (Logged (Vector number)) b old new r (
      (λ none full same enough. absurd (cc)),
      (λ x reply e grown by act vector. (x, grown, by, act, vector)),
    )
closes most position p q (Superseded p' changes) b old new r = offered_closes ⊥ most position p q (LaterThere p' changes) b old new r (
  (λ none full same enough. absurd (cc)),
  (λ x reply e grown by act vector. absurd (cc)),
)
closes most position p q PublicationsFull b old new r =
    offered_closes (IsClosing p.house p.seen q.seen PublicationsFull) most position p q NoneLeft b old new r (
      (λ none full same enough. (same, full, enough)),
      (λ x reply e grown by act vector. absurd (cc)),
    )
