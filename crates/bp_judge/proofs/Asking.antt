-- What a command comes to.
use Rattle.std.proofs.Common.{◌≡◌, ℕ, ◌≤◌, ◌∙◌, refl, sym, subst, ap, arith, false, true, [], length, take, drop, count_by, Some, None}
use Rattle.std.proofs.lemmas.List.{take_all, drop_all}
use Rattle.std.proofs.lemmas.Bool.{le-ltb, lt-ltb}
use Rattle.bp_types.specs.declared.stay.Span.{Span}
use Rattle.bp_types.specs.declared.command.Command.{Command}
use Rattle.bp_types.specs.declared.command.Command.TheVariants.{Book, Cancel, Reforecast, Reprice, Resize, Group}
use Rattle.bp_types.specs.declared.command.Quoted.{Quoted}
use Rattle.bp_core.specs.declared.line.Act.TheVariants.{Do as DoAct}
use Rattle.bp_core.specs.declared.call.Answer.{Answer}
use Rattle.bp_core.specs.declared.call.Answer.TheVariants.{Logged, HistoryFull, Behind, Unquoted, Stale, Superseded, PublicationsFull}
use Rattle.bp_core.specs.Lines.{History, commands, last_position}
use Rattle.bp_core.specs.Changes.{changes_after, is_change}
use Rattle.bp_core.specs.Legal.{IsLegal, is_allowed, is_fresh}
use Rattle.bp_core.specs.Acting.{Diary}
use Rattle.bp_core.specs.Replying.{IsSaid, IsFull, IsBehind, NeedsQuote}
use Rattle.bp_core.proofs.Counts.{commands_fit}
use Rattle.bp_judge.specs.Replays.{IsAsked}

-- where the history is full no command is allowed
pub full_disallows : (b : Diary) (c : Command) → IsFull b → is_allowed b.house b.history (DoAct c) ≡ false
full_disallows b c full = le-ltb (commands b.history) b.house.limits.entries (omega (arith, full))

pub free_allows : (b : Diary) (c : Command) → IsLegal b.house b.history → (IsFull b → ⊥) → is_allowed b.house b.history (DoAct c) ≡ true
free_allows b c legal free = let fit = commands_fit b.house b.history legal in lt-ltb (commands b.history) b.house.limits.entries (omega arith)

-- a Book that is behind is not fresh
pub behind_is_stale : (b : Diary) (c : Command) (position changes : ℕ) → IsBehind b c position changes → is_fresh b.house b.history (DoAct c) ≡ false
behind_is_stale b c position changes is =
    let same = is.changes_are ∙ ap (changes_after b.history) is.position_is in
    let many : b.house.limits.stale_after ≤ changes_after b.history (last_position b.history) = let m = is.too_many in omega (arith, m, same) in
    ap (λ d. is_fresh b.house b.history (DoAct d)) is.book ∙ le-ltb (changes_after b.history (last_position b.history)) b.house.limits.stale_after many

no_changes : (H : History) (p : ℕ) → p ≡ length H → changes_after H p ≡ 0
no_changes H p e =
    let none : drop p (take (length H) H) ≡ [] = ap (λ k. drop k (take (length H) H)) e ∙ ap (drop (length H)) (take_all (length H) H (omega arith)) ∙
    drop_all (length H) H (omega arith) in
    ap (count_by is_change) none

same_quote : (a b : Quoted) → Some a ≡ Some b → a ≡ b
same_quote a b e = cc

-- what a Group with a quote of this moment comes to
pub asked_quoted : (old new : Diary) (caller : ℕ) (c : Command) (q : Quoted) (a : Answer) → q.position ≡ length old.history →
    IsSaid old new caller c (Some q) a → IsAsked old new caller c a
asked_quoted old new caller c q (Logged reply) at s = s
asked_quoted old new caller c q HistoryFull at s = s.1
asked_quoted old new caller c q (Behind position changes) at s = s.1
asked_quoted old new caller c q Unquoted at s = absurd (let e = s.1.1 in cc)
asked_quoted old new caller c q (Stale changes) at s =
    let t = s.1.1 in
    let same = same_quote q t.quote t.given in
    let none = no_changes old.history t.quote.position (ap (λ (k : Quoted). k.position) (sym same) ∙ at) in
    absurd (let some = t.some in let are = t.changes_are in omega (arith, some, are, none))
asked_quoted old new caller c q (Superseded position changes) at s = absurd s.1
asked_quoted old new caller c q PublicationsFull at s = absurd s.1

-- what a command without a quote comes to, where it needs none
pub asked_unless : (old new : Diary) (caller : ℕ) (c : Command) (a : Answer) → (a ≡ Unquoted → ⊥) → IsSaid old new caller c None a → IsAsked old new caller c a
asked_unless old new caller c (Logged reply) other s = s
asked_unless old new caller c HistoryFull other s = s.1
asked_unless old new caller c (Behind position changes) other s = s.1
asked_unless old new caller c Unquoted other s = absurd (other refl)
asked_unless old new caller c (Stale changes) other s = absurd (let e = s.1.1.given in cc)
asked_unless old new caller c (Superseded position changes) other s = absurd s.1
asked_unless old new caller c PublicationsFull other s = absurd s.1

-- a Group that needs a quote left the book as it was, and there are rooms for it
pub unquoted : (old new : Diary) (caller : ℕ) (c : Command) (a : Answer) → IsSaid old new caller c None a → a ≡ Unquoted → (new ≡ old) × NeedsQuote old c
unquoted old new caller c a s is = let P : Answer → Type 0 = λ x. IsSaid old new caller c None x in let t = subst P is s in (t.0, t.1.0)

-- a command that is no Group needs none
pub needs_no_quote : (old new : Diary) (caller : ℕ) (c : Command) (a : Answer) → ((s : Span) (r m : ℕ) → c ≡ Group s r m → ⊥) →
    IsSaid old new caller c None a → a ≡ Unquoted → ⊥
needs_no_quote old new caller c a other s is = go c other (unquoted old new caller c a s is).1
  where
    go : (d : Command) → ((s : Span) (r m : ℕ) → d ≡ Group s r m → ⊥) → NeedsQuote old d → ⊥
    go (Group span rooms amount) none needs = none span rooms amount refl
    go (Book stay) none needs = needs
    go (Cancel nth) none needs = needs
    go (Reforecast stay count) none needs = needs
    go (Reprice stay rate) none needs = needs
    go (Resize night rooms) none needs = needs
