-- What a line and an answer say of the history before them.
use Rattle.std.proofs.Common.{
  ◌≡◌,
  ℕ,
  ◌*◌,
  ◌∙◌,
  refl,
  sym,
  subst,
  ap,
  arith,
  Bool,
  true,
  false,
  cond,
  ◌==◌,
  [],
  ◌∷◌,
  ◌++◌,
  length,
  Option,
  Some,
  None,
  is_some,
  MatchOption,
  nat_le,
}
use Rattle.std.proofs.Math.Seq.{take-append_seam}
use Rattle.std.proofs.lemmas.Bool.{leb-true, eqb-true, eqb-false}
use Rattle.bp_types.specs.House.{Inn}
use Rattle.bp_types.specs.declared.stay.Span.{Span}
use Rattle.bp_types.specs.declared.command.Command.{Command}
use Rattle.bp_types.specs.declared.command.Command.TheVariants.{Book, Cancel, Reforecast, Reprice, Resize, Group}
use Rattle.bp_types.specs.declared.command.Quoted.{Quoted}
use Rattle.bp_types.specs.Laws.{DisplacementIsUnique}
use Rattle.bp_types.specs.Spans.{first_short}
use Rattle.bp_core.specs.declared.line.Act.TheVariants.{Do as DoAct, Publish, Enrol, Leave}
use Rattle.bp_core.specs.declared.line.Line.{Line}
use Rattle.bp_core.specs.declared.line.Reply.{Reply}
use Rattle.bp_core.specs.declared.line.Reply.TheVariants.{GroupNoRoom}
use Rattle.bp_core.specs.declared.call.Call.TheVariants.{Do}
use Rattle.bp_core.specs.declared.call.Answer.{Answer}
use Rattle.bp_core.specs.declared.call.Answer.TheVariants.{Logged, HistoryFull, Behind, Unquoted, Stale, Superseded, PublicationsFull}
use Rattle.bp_core.specs.Lines.{History, line_at, commands, last_position}
use Rattle.bp_core.specs.Changes.{changes_after}
use Rattle.bp_core.specs.Instance.{instance_of, rooms_left_at}
use Rattle.bp_core.specs.Answer.{IsCommandReply, IsGroupReply, IsPricedReply, group_reply}
use Rattle.bp_core.specs.Legal.{IsLegalLine}
use Rattle.bp_core.specs.Acting.{Diary, IsLogged, IsRefused, refusal, command_refusal, quote_refusal, refuse_if}
use Rattle.bp_core.specs.Replying.{LastLineIsLegal, OneReply, AnswersSay, IsSaid, IsCause, IsFull, NeedsQuote}
use Rattle.bp_core.proofs.Pushes.{length-push, line_at-new}

pub last_line_is_legal : LastLineIsLegal
last_line_is_legal h H x legal =
    let each = legal.lines (length H) (let n = length-push H x in omega arith) in
    let P : History → Type 0 = λ G. IsLegalLine h G (line_at (H ++ x ∷ []) (length H)) in
    let Q : Line → Type 0 = λ y. IsLegalLine h H y in
    subst Q (line_at-new H x) (subst P (take-append_seam H (x ∷ [])) each)

group_once : DisplacementIsUnique → (h : Inn) (H : History) (span : Span) (rooms amount : ℕ) (r s : Reply) → IsGroupReply h H span rooms amount r →
    IsGroupReply h H span rooms amount s → r ≡ s
group_once unique h H span rooms amount r s a b = go (first_short (rooms_left_at h H) span rooms) a b
  where
    go : (o : Option ℕ) → MatchOption o (IsPricedReply h H span rooms amount r) (λ night. r ≡ GroupNoRoom night) →
        MatchOption o (IsPricedReply h H span rooms amount s) (λ night. s ≡ GroupNoRoom night) → r ≡ s
    go None x y =
        let same = unique (instance_of h H) span (h.limits.unit * rooms) x.displacement y.displacement x.displaces y.displaces in
        x.answers ∙ ap (group_reply (h.limits.unit * amount)) same ∙ sym y.answers
    go (Some night) x y = x ∙ sym y

command_once : DisplacementIsUnique → (h : Inn) (H : History) (caller : ℕ) (command : Command) (r s : Reply) → IsCommandReply h H caller command r →
    IsCommandReply h H caller command s → r ≡ s
command_once unique h H caller (Book stay) r s a b = a ∙ sym b
command_once unique h H caller (Cancel nth) r s a b = a ∙ sym b
command_once unique h H caller (Reforecast stay count) r s a b = a ∙ sym b
command_once unique h H caller (Reprice stay rate) r s a b = a ∙ sym b
command_once unique h H caller (Resize night rooms) r s a b = a ∙ sym b
command_once unique h H caller (Group span rooms amount) r s a b = group_once unique h H span rooms amount r s a b

pub one_reply : DisplacementIsUnique → OneReply
one_reply unique h H caller (DoAct command) r s a b = command_once unique h H caller command r s a b
one_reply unique h H caller (Publish position) r s a b = a ∙ sym b
one_reply unique h H caller Enrol r s a b = a ∙ sym b
one_reply unique h H caller Leave r s a b = a ∙ sym b

same_some : (a b : Answer) → Some a ≡ Some b → a ≡ b
same_some a b e = cc

no_some : (A : Type 0) (b : Answer) → None ≡ Some b → A
no_some A b e = absurd (cc)

-- the cause of a refusal, whatever comes of the book
abbrev Causes : Diary → Command → Option Quoted → Answer → Type 0
Causes b c q (Logged reply) = ⊥
Causes b c q a = IsCause b c q a

behind : (b : Diary) (stay : ℕ) (q : Option Quoted) (a : Answer) → (IsFull b → ⊥) → command_refusal b.house b.history (Book stay) q ≡ Some a →
    Causes b (Book stay) q a
behind b stay q a not_full is = go (nat_le b.house.limits.stale_after changes) refl is
  where
    changes : ℕ
    changes = changes_after b.history (last_position b.history)

    go : (t : Bool) → nat_le b.house.limits.stale_after changes ≡ t → refuse_if t (Behind (last_position b.history) changes) ≡ Some a → Causes b (Book stay) q a
    go true t e = subst (Causes b (Book stay) q) (same_some _ a e) (record {
      stay = stay;
      book = refl;
      not_full = not_full;
      position_is = refl;
      changes_are =
          refl;
      too_many = leb-true _ _ t;
    })
    go false f e = no_some _ a e

quote_asked : (b : Diary) (c : Command) (q : Option Quoted) (a : Answer) → NeedsQuote b c → quote_refusal b.history q ≡ Some a → Causes b c q a
quote_asked b c None a needs is = subst (Causes b c None) (same_some _ a is) (needs, refl)
quote_asked b c (Some x) a needs is = go (nat_le 1 (changes_after b.history x.position)) refl is
  where
    go : (t : Bool) → nat_le 1 (changes_after b.history x.position) ≡ t → refuse_if t (Stale (changes_after b.history x.position)) ≡ Some a →
        Causes b c (Some x) a
    go true t e = subst (Causes b c (Some x)) (same_some _ a e) (needs, record { quote = x; given = refl; changes_are = refl; some = leb-true _ _ t })
    go false f e = no_some _ a e

command_cause : (b : Diary) (c : Command) (q : Option Quoted) (a : Answer) → (IsFull b → ⊥) → command_refusal b.house b.history c q ≡ Some a → Causes b c q a
command_cause b (Book stay) q a not_full is = behind b stay q a not_full is
command_cause b (Group span rooms amount) q a not_full is = go (first_short (rooms_left_at b.house b.history) span rooms) refl is
  where
    go : (o : Option ℕ) → first_short (rooms_left_at b.house b.history) span rooms ≡ o → cond (is_some o) None (quote_refusal b.history q) ≡ Some a →
        Causes b (Group span rooms amount) q a
    go None e r = quote_asked b (Group span rooms amount) q a e r
    go (Some night) e r = no_some _ a r
command_cause b (Cancel nth) q a not_full is = no_some _ a is
command_cause b (Reforecast stay count) q a not_full is = no_some _ a is
command_cause b (Reprice stay rate) q a not_full is = no_some _ a is
command_cause b (Resize night rooms) q a not_full is = no_some _ a is

cause : (b : Diary) (c : Command) (q : Option Quoted) (a : Answer) → refusal b.house b.history (Do c q) ≡ Some a → Causes b c q a
cause b c q a is = go (commands b.history == b.house.limits.entries) refl is
  where
    go : (t : Bool) → (commands b.history == b.house.limits.entries) ≡ t → cond t (Some HistoryFull) (command_refusal b.house b.history c q) ≡ Some a →
        Causes b c q a
    go true t e = subst (Causes b c q) (same_some _ a e) (eqb-true (commands b.history) b.house.limits.entries t)
    go false f e = command_cause b c q a (eqb-false (commands b.history) b.house.limits.entries f) e

refused_says : (old new : Diary) (caller : ℕ) (c : Command) (q : Option Quoted) (a : Answer) → new ≡ old → Causes old c q a → IsSaid old new caller c q a
refused_says old new caller c q (Logged reply) same s = absurd s
refused_says old new caller c q HistoryFull same s = (same, s)
refused_says old new caller c q (Behind position changes) same s = (same, s)
refused_says old new caller c q Unquoted same s = (same, s)
refused_says old new caller c q (Stale changes) same s = (same, s)
refused_says old new caller c q (Superseded position changes) same s = (same, s)
refused_says old new caller c q PublicationsFull same s = (same, s)

pub answers_say : AnswersSay
answers_say old new caller c q a is = go (refusal old.house old.history (Do c q)) refl is
  where
    go : (o : Option Answer) → refusal old.house old.history (Do c q) ≡ o → MatchOption o (IsLogged old new caller (Do c q) a) (IsRefused old new a) →
        IsSaid old new caller c q a
    go None e l = subst (IsSaid old new caller c q) (sym l.answer_is) (record { line = l.adds; reply_is = l.replies })
    go (Some b) e r = subst (IsSaid old new caller c q) (sym r.0) (refused_says old new caller c q b r.1 (cause old c q b e))
