-- A legal history can be said as a journal.
use Rattle.std.proofs.Common.{
  ◌≡◌,
  ℕ,
  ◌*◌,
  refl,
  ap,
  subst,
  ◌∙◌,
  arith,
  true,
  false,
  cond,
  Bool,
  [],
  ◌∷◌,
  length,
  Option,
  Some,
  None,
  is_some,
  MatchOption,
  nat_lt,
}
use Rattle.std.proofs.lemmas.Bool.{and_from}
use Rattle.std.proofs.Math.Seq.{take-length}
use Rattle.std.specs.List.{list_any}
use Rattle.bp_types.specs.declared.stay.Span.{Span}
use Rattle.bp_types.specs.declared.command.Command.{Command}
use Rattle.bp_types.specs.declared.command.Command.TheVariants.{Book, Cancel, Reforecast, Reprice, Resize, Group}
use Rattle.bp_types.specs.Claim.{Claim}
use Rattle.bp_types.specs.House.{Inn}
use Rattle.bp_types.specs.Spans.{first_short}
use Rattle.bp_core.specs.declared.line.Act.{Act}
use Rattle.bp_core.specs.declared.line.Act.TheVariants.{Do, Publish, Enrol, Leave}
use Rattle.bp_core.specs.declared.line.Line.{Line}
use Rattle.bp_core.specs.declared.line.Reply.{Reply}
use Rattle.bp_core.specs.declared.line.Reply.TheVariants.{
  TooLow,
  Cancelled,
  NotBooked,
  AlreadyCancelled,
  Done,
  BelowSold,
  GroupAccepted,
  GroupTooLow,
  GroupNoRoom,
}
use Rattle.bp_core.specs.Answer.{IsReply, IsCommandReply, IsPricedReply, covered_reply, given_up_reply, sum_of}
use Rattle.bp_core.specs.Instance.{rate_of, span_of, rooms_left_at, sold_at}
use Rattle.bp_core.specs.Legal.{IsLegalLine, IsCertified}
use Rattle.bp_core.specs.Lines.{History, is_accepted, is_cancellation, nth_book, last_number}
use Rattle.bp_core.proofs.Prefixes.{at_each_position}
use Rattle.bp_journal.specs.declared.version.Version.TheVariants.{Two}
use Rattle.bp_journal.specs.Acts.{is_reply_to, is_reply_of}
use Rattle.bp_journal.specs.Journals.{is_form, is_line_of, is_journal, has_certificate}
use Rattle.bp_journal.specs.Laws.{LegalIsJournal}
use Rattle.bp_journal.proofs.BodyLemmas.{journal-append}
use Rattle.bp_journal.proofs.PlaceLemmas.{journal_one}

covered_fits : (stay vector sum : ℕ) (full : Option ℕ) → is_reply_to (Book stay) (covered_reply vector sum full) ≡ true
covered_fits stay vector sum None = refl
covered_fits stay vector sum (Some night) = refl

book_fits : (stay vector sum rate : ℕ) (b : Bool) (full : Option ℕ) →
    is_reply_to (Book stay) (cond b (TooLow vector sum rate) (covered_reply vector sum full)) ≡ true
book_fits stay vector sum rate true full = refl
book_fits stay vector sum rate false full = covered_fits stay vector sum full

cancel_fits : (nth : ℕ) (found : Option Line) (again : Bool) → is_reply_to (Cancel nth) (given_up_reply found again) ≡ true
cancel_fits nth None again = refl
cancel_fits nth (Some x) again = go (is_accepted x.entry.reply) again
  where
    go : (a b : Bool) → is_reply_to (Cancel nth) (cond a (cond b AlreadyCancelled Cancelled) NotBooked) ≡ true
    go true true = refl
    go true false = refl
    go false b = refl

resize_fits : (night rooms sold : ℕ) (b : Bool) → is_reply_to (Resize night rooms) (cond b (BelowSold sold) Done) ≡ true
resize_fits night rooms sold true = refl
resize_fits night rooms sold false = refl

group_fits : (span : Span) (rooms amount displacement : ℕ) (b : Bool) →
    is_reply_to (Group span rooms amount) (cond b (GroupTooLow displacement) (GroupAccepted displacement)) ≡ true
group_fits span rooms amount displacement true = refl
group_fits span rooms amount displacement false = refl

command_fits : (h : Inn) (H : History) (caller : ℕ) (c : Command) (r : Reply) → IsCommandReply h H caller c r → is_reply_to c r ≡ true
command_fits h H caller (Book stay) r is = ap (is_reply_to (Book stay)) is ∙
    book_fits stay (last_number H) (sum_of h H stay) (rate_of h H stay) (nat_lt (rate_of h H stay) (sum_of h H stay))
    (first_short (rooms_left_at h H) (span_of h stay) 1)
command_fits h H caller (Cancel nth) r is = ap (is_reply_to (Cancel nth)) is ∙ cancel_fits nth (nth_book H caller nth) (list_any (is_cancellation caller nth) H)
command_fits h H caller (Reforecast stay count) r is = ap (is_reply_to (Reforecast stay count)) is
command_fits h H caller (Reprice stay rate) r is = ap (is_reply_to (Reprice stay rate)) is
command_fits h H caller (Resize night rooms) r is = ap (is_reply_to (Resize night rooms)) is ∙
    resize_fits night rooms (sold_at h H night) (nat_lt rooms (sold_at h H night))
command_fits h H caller (Group span rooms amount) r is = go (first_short (rooms_left_at h H) span rooms) is
  where
    go : (o : Option ℕ) → MatchOption o (IsPricedReply h H span rooms amount r) (λ night. r ≡ GroupNoRoom night) →
        is_reply_to (Group span rooms amount) r ≡ true
    go None p = ap (is_reply_to (Group span rooms amount)) p.answers ∙
        group_fits span rooms amount p.displacement (nat_lt (h.limits.unit * amount) p.displacement)
    go (Some night) e = ap (is_reply_to (Group span rooms amount)) e

act_fits : (h : Inn) (H : History) (caller : ℕ) (a : Act) (r : Reply) → IsReply h H caller a r → is_reply_of a r ≡ true
act_fits h H caller (Do command) r is = command_fits h H caller command r is
act_fits h H caller (Publish position) r is = ap (is_reply_of (Publish position)) is
act_fits h H caller Enrol r is = ap (is_reply_of Enrol) is
act_fits h H caller Leave r is = ap (is_reply_of Leave) is

certificate_fits : (h : Inn) (H : History) (a : Act) (c : Option Claim) → IsCertified h H a c → has_certificate a c ≡ true
certificate_fits h H (Publish position) c is = ap is_some is.1
certificate_fits h H (Do command) c is = ap (has_certificate (Do command)) is
certificate_fits h H Enrol c is = ap (has_certificate Enrol) is
certificate_fits h H Leave c is = ap (has_certificate Leave) is

line_fits : (h : Inn) (H : History) (x : Line) → IsLegalLine h H x → is_line_of Two x ≡ true
line_fits h H x legal = and_from (is_form Two x.entry) (has_certificate x.entry.act x.certificate)
    (and_from true (is_reply_of x.entry.act x.entry.reply) refl (act_fits h H x.entry.caller x.entry.act x.entry.reply legal.reply))
    (certificate_fits h H x.entry.act x.certificate legal.certificate)

pub legal_is_journal : LegalIsJournal
legal_is_journal h H legal =
    let P : History → Type 0 = λ G. is_journal Two G ≡ true in
    subst P (take-length H) (at_each_position h P refl (λ G x so_far line. journal-append Two G (x ∷ []) so_far (journal_one Two x (line_fits h G x line)))
    H legal (length H) (omega arith))
