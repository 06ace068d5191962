-- Bookings on a short history: none is refused, and the counts grow by the reply.
use Rattle.std.proofs.Common.{◌≡◌, ℕ, suc, ◌+◌, ◌<◌, ◌≤◌, ◌∙◌, ap, sym, subst, refl, arith, false, ◌==◌, [], ◌∷◌, ◌++◌, length, take, drop, Option, None}
use Rattle.std.specs.Prelude.{nat_le, MatchOption}
use Rattle.std.proofs.lemmas.Bool.{ne_eqb, lt-leb}
use Rattle.std.proofs.lemmas.List.{length-take, length-drop, length-append}
use Rattle.std.proofs.lemmas.List.Sums.{count_by-le-length}
use Rattle.bp_types.specs.declared.command.Command.TheVariants.{Book}
use Rattle.bp_types.specs.House.{Inn}
use Rattle.bp_core.specs.declared.line.Reply.{Reply}
use Rattle.bp_core.specs.declared.line.Line.{Line}
use Rattle.bp_core.specs.declared.call.Call.TheVariants.{Do}
use Rattle.bp_core.specs.declared.call.Answer.{Answer}
use Rattle.bp_core.specs.declared.call.Answer.TheVariants.{Logged}
use Rattle.bp_core.specs.Lines.{History, commands, is_command, is_accepted, last_position}
use Rattle.bp_core.specs.Changes.{is_change, changes_after}
use Rattle.bp_core.specs.Answer.{book_reply}
use Rattle.bp_core.specs.Acting.{Diary, IsAnswered, IsLogged, IsRefused, refusal, line_of}
use Rattle.bp_core.proofs.Pushes.{count-push}
use Rattle.bp_demo.specs.declared.counts.Counts.{Counts}
use Rattle.bp_demo.specs.Bookings.{booking, booked_behind, is_too_low, is_no_room, counts_of, with_reply}

-- no more changes than lines
few_changes : (H : History) (a : ℕ) → changes_after H a ≤ length H
few_changes H a =
    omega (arith, count_by-le-length is_change (drop a (take (length H) H)), length-drop a (take (length H) H), length-take (length H) H)

-- behind a short history no booking is refused
pub not_refused : (h : Inn) (H : History) (stay : ℕ) → length H < h.limits.stale_after → length H < h.limits.entries → refusal h H (Do (Book stay) None) ≡ None
not_refused h H stay fresh room =
    let few : commands H ≤ length H = count_by-le-length is_command H in
    let one_more : (commands H == h.limits.entries) ≡ false = ne_eqb (commands H) h.limits.entries (λ same. omega (arith, few, room, same)) in
    let few_enough : nat_le h.limits.stale_after (changes_after H (last_position H)) ≡ false =
    lt-leb h.limits.stale_after (changes_after H (last_position H)) (omega (arith, few_changes H (last_position H), fresh)) in
    rw (one_more, few_enough) refl

-- so it is logged with the reply of its moment
pub is_booked : (old new : Diary) (stay : ℕ) (answer : Answer) → length old.history < old.house.limits.stale_after →
    length old.history < old.house.limits.entries
    → IsAnswered old new 0 (Do (Book stay) None) answer
    → (answer ≡ Logged (book_reply old.house old.history stay)) ×
    (new ≡ record { house = old.house; history = old.history ++ booking old.house old.history stay ∷ [] })
is_booked old new stay answer fresh room answered =
    let P : Option Answer → Type 0 = λ r. MatchOption r (IsLogged old new 0 (Do (Book stay) None) answer) (IsRefused old new answer) in
    let logged : IsLogged old new 0 (Do (Book stay) None) answer = subst P (not_refused old.house old.history stay fresh room) answered in
    let Q : Reply → Type 0 = λ r. (answer ≡ Logged r) × (new ≡ record { house = old.house; history = old.history ++ line_of 0 (Do (Book stay) None) r ∷ [] }) in
    subst Q logged.replies (logged.answer_is, logged.adds)

-- the counts grow by its reply
counts_more : (h : Inn) (H : History) (stay : ℕ) → with_reply (counts_of H) (book_reply h H stay) ≡ counts_of (H ++ booking h H stay ∷ [])
counts_more h H stay =
    let x = booking h H stay in
    rw (
      count-push (λ (y : Line). is_accepted y.entry.reply) H x,
      count-push (λ (y : Line). is_too_low y.entry.reply) H x,
      count-push (λ (y : Line). is_no_room y.entry.reply) H x,
    ) refl

-- what is known of a desk after n bookings
pub record AreBooked (h : Inn) (H : History) (n : ℕ) (now : Diary) (counts : Counts) : Type 0 where
  pub house : now.house ≡ h
  pub history : now.history ≡ booked_behind h H n
  pub size : length now.history ≡ n + 1
  pub counts_are : counts ≡ counts_of now.history

-- and after one more
pub booked_more : (h : Inn) (H : History) (n : ℕ) (old new : Diary) (counts after : Counts) (reply : Reply) → AreBooked h H n old counts
    → new ≡ record { house = old.house; history = old.history ++ booking old.house old.history n ∷ [] } → reply ≡ book_reply old.house old.history n →
    after ≡ with_reply counts reply
    → AreBooked h H (n + 1) new after
booked_more h H n old new counts after reply so_far adds is more =
    let next : n + 1 ≡ suc n = omega arith in
    let lines : new.history ≡ old.history ++ booking old.house old.history n ∷ [] = ap (λ (d : Diary). d.history) adds in
    record {
      house = ap (λ (d : Diary). d.house) adds ∙ so_far.house;
      history = lines ∙ ap (λ (k : Inn). old.history ++ booking k old.history n ∷ []) so_far.house ∙
          ap (λ (G : History). G ++ booking h G n ∷ []) so_far.history ∙ ap (booked_behind h H) (sym next);
      size = (let grown : length new.history ≡ length (old.history ++ booking old.house old.history n ∷ []) = ap (λ (G : History). length G) lines in
          omega (arith, grown, length-append old.history (booking old.house old.history n ∷ []), so_far.size));
      counts_are = more ∙ ap (λ (k : Counts). with_reply k reply) so_far.counts_are ∙ ap (with_reply (counts_of old.history)) is ∙
          counts_more old.house old.history n ∙ ap counts_of (sym lines);
    }
