-- What answers say: one is a reply exactly where the call was logged, and a group gets a group's.
use Rattle.std.proofs.Common.{
  ◌≡◌,
  ℕ,
  ◌*◌,
  Bool,
  true,
  false,
  cond,
  [],
  ◌∷◌,
  ◌++◌,
  Option,
  Some,
  None,
  is_some,
  MatchOption,
  nat_lt,
  nat_le,
  refl,
  sym,
  ap,
  subst,
  ◌∙◌,
  ◌==◌,
  eq-eqb,
}
use Rattle.std.proofs.lemmas.List.Elements.{filter-append}
use Rattle.std.specs.Arc.{arc_value}
use Rattle.bp_types.specs.House.{Inn}
use Rattle.bp_types.specs.declared.command.Command.{Command}
use Rattle.bp_types.specs.declared.command.Command.TheVariants.{Book, Cancel, Reforecast, Reprice, Resize, Group}
use Rattle.bp_types.specs.declared.command.Quoted.{Quoted}
use Rattle.bp_core.specs.declared.line.Reply.{Reply}
use Rattle.bp_core.specs.declared.line.Reply.TheVariants.{GroupAccepted, GroupTooLow, GroupNoRoom}
use Rattle.bp_core.specs.declared.call.Call.{Call}
use Rattle.bp_core.specs.declared.call.Call.TheVariants.{Do, Publish, Enrol, Leave}
use Rattle.bp_core.specs.declared.call.Answer.{Answer}
use Rattle.bp_core.specs.declared.call.Answer.TheVariants.{HistoryFull, Behind, Unquoted, Stale, Superseded, PublicationsFull}
use Rattle.bp_core.specs.Lines.{History, calls, is_by, commands, vectors, last_position}
use Rattle.bp_core.specs.Changes.{changes_after, changes_between}
use Rattle.bp_types.specs.declared.stay.Span.{Span}
use Rattle.bp_types.specs.Spans.{first_short}
use Rattle.bp_core.specs.Instance.{rooms_left_at}
use Rattle.bp_core.specs.Acting.{Diary, IsLogged, IsRefused, IsAnswered, refusal, command_refusal, quote_refusal, refuse_if, line_of}
use Rattle.bp_core.specs.Answer.{IsGroupReply, IsPricedReply}
use Rattle.bp_desk.specs.Calling.{is_logged}
use Rattle.bp_desk.specs.Typed.{is_group_reply, is_group_answer}

same_some : (a b : Answer) → Some a ≡ Some b → a ≡ b
same_some a b e = cc

no_some : (A : Type 0) (b : Answer) → None ≡ Some b → A
no_some A b e = absurd (cc)

if_refused : (b : Bool) (a o : Answer) → is_logged a ≡ false → refuse_if b a ≡ Some o → is_logged o ≡ false
if_refused true a o plain is = subst (λ x. is_logged x ≡ false) (same_some a o is) plain
if_refused false a o plain is = no_some (is_logged o ≡ false) o is

quote_refused : (H : History) (q : Option Quoted) (o : Answer) → quote_refusal H q ≡ Some o → is_logged o ≡ false
quote_refused H None o is = subst (λ x. is_logged x ≡ false) (same_some Unquoted o is) refl
quote_refused H (Some q) o is = if_refused (nat_le 1 (changes_after H q.position)) (Stale (changes_after H q.position)) o refl is

command_refused : (h : Inn) (H : History) (c : Command) (q : Option Quoted) (o : Answer) → command_refusal h H c q ≡ Some o → is_logged o ≡ false
command_refused h H (Book stay) q o is =
    if_refused (nat_le h.limits.stale_after (changes_after H (last_position H))) (Behind (last_position H) (changes_after H (last_position H))) o refl is
command_refused h H (Group span rooms amount) q o is = go (is_some (first_short (rooms_left_at h H) span rooms)) is
  where
    go : (b : Bool) → cond b None (quote_refusal H q) ≡ Some o → is_logged o ≡ false
    go true e = no_some (is_logged o ≡ false) o e
    go false e = quote_refused H q o e
command_refused h H (Cancel nth) q o is = no_some (is_logged o ≡ false) o is
command_refused h H (Reforecast stay count) q o is = no_some (is_logged o ≡ false) o is
command_refused h H (Reprice stay rate) q o is = no_some (is_logged o ≡ false) o is
command_refused h H (Resize night rooms) q o is = no_some (is_logged o ≡ false) o is

pub refused_plain : (h : Inn) (H : History) (call : Call) (o : Answer) → refusal h H call ≡ Some o → is_logged o ≡ false
refused_plain h H (Do command quoted) o is = go (commands H == h.limits.entries) is
  where
    go : (b : Bool) → cond b (Some HistoryFull) (command_refusal h H command quoted) ≡ Some o → is_logged o ≡ false
    go true e = subst (λ x. is_logged x ≡ false) (same_some HistoryFull o e) refl
    go false e = command_refused h H command quoted o e
refused_plain h H (Publish board least) o is = go (nat_lt (changes_between H (last_position H) (arc_value board).position) least) is
  where
    go : (b : Bool) → cond b (Some (Superseded (last_position H) (changes_between H (last_position H) (arc_value board).position)))
        (refuse_if (vectors H == h.limits.publications) PublicationsFull) ≡ Some o → is_logged o ≡ false
    go true e = subst (λ x. is_logged x ≡ false) (same_some _ o e) refl
    go false e = if_refused (vectors H == h.limits.publications) PublicationsFull o refl e
refused_plain h H Enrol o is = no_some (is_logged o ≡ false) o is
refused_plain h H Leave o is = no_some (is_logged o ≡ false) o is

-- the two ways to be answered
pub by_answer : (old new : Diary) (caller : ℕ) (call : Call) (answer : Answer) (P : Type 0) → IsAnswered old new caller call answer
    → (IsLogged old new caller call answer → P) → (is_logged answer ≡ false → new ≡ old → P) → P
by_answer old new caller call answer P is logged refused = go (refusal old.house old.history call) refl is
  where
    go : (o : Option Answer) → refusal old.house old.history call ≡ o → MatchOption o (IsLogged old new caller call answer) (IsRefused old new answer) → P
    go None e l = logged l
    go (Some a) e r = refused (ap is_logged r.0 ∙ refused_plain old.house old.history call a e) r.1

true_not_false : (b : Bool) → b ≡ true → b ≡ false → {A : Type 0} → A
true_not_false b t f = absurd (let e : true ≡ false = sym t ∙ f in cc)

pub logged_adds : (old new : Diary) (caller : ℕ) (call : Call) (answer : Answer) → IsAnswered old new caller call answer → is_logged answer ≡ true →
    IsLogged old new caller call answer
logged_adds old new caller call answer is on =
    by_answer old new caller call answer (IsLogged old new caller call answer) is (λ l. l) (λ off _. true_not_false (is_logged answer) on off)

pub refused_keeps : (old new : Diary) (caller : ℕ) (call : Call) (answer : Answer) → IsAnswered old new caller call answer → is_logged answer ≡ false →
    new ≡ old
refused_keeps old new caller call answer is off =
    by_answer old new caller call answer (new ≡ old) is (λ l. true_not_false (is_logged answer) (ap is_logged l.answer_is) off) (λ _ same. same)

-- a call more of the caller, where it was logged
pub calls_push : (H : History) (caller : ℕ) (call : Call) (reply : Reply) →
    calls (H ++ line_of caller call reply ∷ []) caller ≡ calls H caller ++ line_of caller call reply ∷ []
calls_push H caller call reply = filter-append (is_by caller) H (line_of caller call reply ∷ []) ∙
    ap (λ (b : Bool). calls H caller ++ cond b (line_of caller call reply ∷ []) []) (eq-eqb caller caller refl)

quote_asked : (H : History) (q : Option Quoted) (o : Answer) → quote_refusal H q ≡ Some o → is_group_answer o ≡ true
quote_asked H None o is = subst (λ x. is_group_answer x ≡ true) (same_some Unquoted o is) refl
quote_asked H (Some q) o is = go (nat_le 1 (changes_after H q.position)) is
  where
    go : (b : Bool) → refuse_if b (Stale (changes_after H q.position)) ≡ Some o → is_group_answer o ≡ true
    go true e = subst (λ x. is_group_answer x ≡ true) (same_some _ o e) refl
    go false e = no_some (is_group_answer o ≡ true) o e

group_refused : (h : Inn) (H : History) (span : Span) (rooms amount : ℕ) (q : Option Quoted) (o : Answer) →
    refusal h H (Do (Group span rooms amount) q) ≡ Some o → is_group_answer o ≡ true
group_refused h H span rooms amount q o is = full (commands H == h.limits.entries) is
  where
    lacks : (b : Bool) → cond b None (quote_refusal H q) ≡ Some o → is_group_answer o ≡ true
    lacks true e = no_some (is_group_answer o ≡ true) o e
    lacks false e = quote_asked H q o e

    full : (b : Bool) → cond b (Some HistoryFull) (command_refusal h H (Group span rooms amount) q) ≡ Some o → is_group_answer o ≡ true
    full true e = subst (λ x. is_group_answer x ≡ true) (same_some HistoryFull o e) refl
    full false e = lacks (is_some (first_short (rooms_left_at h H) span rooms)) e

group_replied : (h : Inn) (H : History) (span : Span) (rooms amount : ℕ) (r : Reply) → IsGroupReply h H span rooms amount r → is_group_reply r ≡ true
group_replied h H span rooms amount r is = go (first_short (rooms_left_at h H) span rooms) is
  where
    priced : (b : Bool) (d : ℕ) → is_group_reply (cond b (GroupTooLow d) (GroupAccepted d)) ≡ true
    priced true d = refl
    priced false d = refl

    go : (o : Option ℕ) → MatchOption o (IsPricedReply h H span rooms amount r) (λ night. r ≡ GroupNoRoom night) → is_group_reply r ≡ true
    go None p = subst (λ x. is_group_reply x ≡ true) (sym p.answers) (priced (nat_lt (h.limits.unit * amount) p.displacement) p.displacement)
    go (Some night) e = subst (λ x. is_group_reply x ≡ true) (sym e) refl

-- what a group is answered is a group's answer
pub group_answered : (old new : Diary) (caller : ℕ) (span : Span) (rooms amount : ℕ) (q : Option Quoted) (a : Answer) →
    IsAnswered old new caller (Do (Group span rooms amount) q) a → is_group_answer a ≡ true
group_answered old new caller span rooms amount q a is = go (refusal old.house old.history (Do (Group span rooms amount) q)) refl is
  where
    go : (o : Option Answer) → refusal old.house old.history (Do (Group span rooms amount) q) ≡ o →
        MatchOption o (IsLogged old new caller (Do (Group span rooms amount) q) a) (IsRefused old new a) → is_group_answer a ≡ true
    go None e l = subst (λ x. is_group_answer x ≡ true) (sym l.answer_is) (group_replied old.house old.history span rooms amount l.reply l.replies)
    go (Some o) e r = subst (λ x. is_group_answer x ≡ true) (sym r.0) (group_refused old.house old.history span rooms amount q o e)
