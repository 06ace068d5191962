-- No line of a journal has an end in it.
use Rattle.std.proofs.Common.{◌≡◌, ℕ, zero, suc, ◌+◌, refl, arith, List, [], ◌∷◌, ◌++◌, map, All, Option, Some, None}
use Rattle.std.specs.Prelude.{codes}
use Rattle.std.proofs.lemmas.List.Elements.{All-append}
use Rattle.bp_types.specs.declared.command.Command.TheVariants.{Book, Cancel, Reforecast, Reprice, Resize, Group}
use Rattle.bp_types.specs.Claim.{Claim}
use Rattle.bp_text.specs.Numbers.{spelled}
use Rattle.bp_text.specs.Lines.{HasNoEnd}
use Rattle.bp_text.specs.Words.{Word, words_behind, phrase}
use Rattle.bp_text.proofs.LineLemmas.{spelled_lacks}
use Rattle.bp_text.proofs.EndLemmas.{line_in_front, one_line, word_has_no_end}
use Rattle.bp_cert.proofs.EndsOfTexts.{claim_no_ends}
use Rattle.bp_core.specs.declared.line.Act.{Act}
use Rattle.bp_core.specs.declared.line.Act.TheVariants.{Do, Publish, Enrol, Leave}
use Rattle.bp_core.specs.declared.line.Entry.{Entry}
use Rattle.bp_core.specs.declared.line.Reply.{Reply}
use Rattle.bp_core.specs.declared.line.Reply.TheVariants.{
  Accepted,
  TooLow,
  NoRoom,
  Cancelled,
  NotBooked,
  AlreadyCancelled,
  Done,
  BelowSold,
  GroupAccepted,
  GroupTooLow,
  GroupNoRoom,
  Vector,
}
use Rattle.bp_core.specs.Lines.{History}
use Rattle.bp_journal.specs.declared.version.Version.{Version}
use Rattle.bp_journal.specs.declared.version.Version.TheVariants.{One, Two}
use Rattle.bp_journal.specs.Acts.{act_word, act_numbers, reply_word, reply_numbers}
use Rattle.bp_journal.specs.Journals.{entry_words, entry_text, certificate_part, lines_from, version_line, journal_lines}

number_no_end : (n : ℕ) → HasNoEnd (spelled n)
number_no_end n = spelled_lacks 10 n (omega arith)

spaced : (w : Word) → HasNoEnd w → HasNoEnd (32 ∷ w)
spaced w none zero d h e = omega (arith, e)
spaced w none (suc k) d h e = none k d (omega arith) e

behind_no_end : (ws : List Word) → All HasNoEnd ws → HasNoEnd (words_behind ws)
behind_no_end [] all = λ k d h. absurd (omega arith)
behind_no_end (w ∷ ws) all =
    All-append (λ b. b ≡ 10 → ⊥) (32 ∷ w) (words_behind ws) (spaced w (all 0 [] (omega arith))) (behind_no_end ws (λ k d h. all (suc k) d (omega arith)))

numbers_no_end : (ns : List ℕ) → All HasNoEnd (map spelled ns)
numbers_no_end [] = λ k d h. absurd (omega arith)
numbers_no_end (n ∷ ns) = line_in_front (spelled n) (map spelled ns) (number_no_end n) (numbers_no_end ns)

act_no_end : (a : Act) → HasNoEnd (act_word a)
act_no_end (Do (Book stay)) = word_has_no_end (codes "book") refl
act_no_end (Do (Cancel nth)) = word_has_no_end (codes "cancel") refl
act_no_end (Do (Reforecast stay count)) = word_has_no_end (codes "reforecast") refl
act_no_end (Do (Reprice stay rate)) = word_has_no_end (codes "reprice") refl
act_no_end (Do (Resize night rooms)) = word_has_no_end (codes "resize") refl
act_no_end (Do (Group span rooms amount)) = word_has_no_end (codes "group") refl
act_no_end (Publish position) = word_has_no_end (codes "publish") refl
act_no_end Enrol = word_has_no_end (codes "enrol") refl
act_no_end Leave = word_has_no_end (codes "leave") refl

reply_no_end : (r : Reply) → HasNoEnd (reply_word r)
reply_no_end (Accepted vector sum) = word_has_no_end (codes "accepted") refl
reply_no_end (TooLow vector sum rate) = word_has_no_end (codes "toolow") refl
reply_no_end (NoRoom vector sum night) = word_has_no_end (codes "noroom") refl
reply_no_end Cancelled = word_has_no_end (codes "cancelled") refl
reply_no_end NotBooked = word_has_no_end (codes "notbooked") refl
reply_no_end AlreadyCancelled = word_has_no_end (codes "alreadycancelled") refl
reply_no_end Done = word_has_no_end (codes "done") refl
reply_no_end (BelowSold sold) = word_has_no_end (codes "belowsold") refl
reply_no_end (GroupAccepted displacement) = word_has_no_end (codes "accepted") refl
reply_no_end (GroupTooLow displacement) = word_has_no_end (codes "toolow") refl
reply_no_end (GroupNoRoom night) = word_has_no_end (codes "noroom") refl
reply_no_end (Vector number) = word_has_no_end (codes "vector") refl

pub entry_no_end : (place : ℕ) (e : Entry) → HasNoEnd (entry_text place e)
entry_no_end place e =
    let act = line_in_front (act_word e.act) (map spelled (act_numbers e.act)) (act_no_end e.act) (numbers_no_end (act_numbers e.act)) in
    let reply = line_in_front (reply_word e.reply) (map spelled (reply_numbers e.reply)) (reply_no_end e.reply) (numbers_no_end (reply_numbers e.reply)) in
    let both = All-append HasNoEnd (phrase (act_word e.act) (act_numbers e.act)) (phrase (reply_word e.reply) (reply_numbers e.reply)) act reply in
    let words = line_in_front (spelled e.caller) (phrase (act_word e.act) (act_numbers e.act) ++ phrase (reply_word e.reply) (reply_numbers e.reply))
    (number_no_end e.caller) both in
    All-append (λ b. b ≡ 10 → ⊥) (spelled place) (words_behind (entry_words e)) (number_no_end place) (behind_no_end (entry_words e) words)

part_no_ends : (c : Option Claim) → All HasNoEnd (certificate_part c)
part_no_ends None = λ k d h. absurd (omega arith)
part_no_ends (Some c) = claim_no_ends c

history_no_ends : (place : ℕ) (H : History) → All HasNoEnd (lines_from place H)
history_no_ends place [] = λ k d h. absurd (omega arith)
history_no_ends place (x ∷ H) =
    line_in_front (entry_text place x.entry) (certificate_part x.certificate ++ lines_from (place + 1) H) (entry_no_end place x.entry)
    (All-append HasNoEnd (certificate_part x.certificate) (lines_from (place + 1) H) (part_no_ends x.certificate) (history_no_ends (place + 1) H))

version_no_end : (version : Version) → HasNoEnd (version_line version)
version_no_end One = word_has_no_end (codes "journal 1") refl
version_no_end Two = word_has_no_end (codes "journal 2") refl

pub journal_no_ends : (version : Version) (H : History) → All HasNoEnd (journal_lines version H)
journal_no_ends version H = line_in_front (version_line version) (lines_from 0 H ++ codes "end" ∷ []) (version_no_end version)
    (All-append HasNoEnd (lines_from 0 H) (codes "end" ∷ []) (history_no_ends 0 H) (one_line (codes "end") (word_has_no_end (codes "end") refl)))
