-- From the lines of a journal to its bytes.
use Rattle.std.proofs.Common.{◌≡◌, ℕ, ◌+◌, refl, List, []}
use Rattle.std.specs.Prelude.{Ok, Err}
use Rattle.bp_text.specs.declared.text_error.TextError.{TextError}
use Rattle.bp_text.specs.declared.text_error.TextError.TheVariants.{Trailing}
use Rattle.bp_text.specs.Lines.{Given}
use Rattle.bp_text.specs.Reading.{Spells, start_of}
use Rattle.bp_text.proofs.WholeLemmas.{trailed_text, whole_text}
use Rattle.bp_core.specs.Lines.{History}
use Rattle.bp_journal.specs.Journals.{Noted, noted_lines}
use Rattle.bp_journal.specs.Limits.{IsNotedWithin}
use Rattle.bp_journal.specs.Read.{IsNoted, IsJournalText}

-- what was given, with its version
abbrev noted : (old new : Given) (H : History) → IsNoted old new H → Noted
noted old new H is = (is.version, H, is.journal)

spelt : (old new : Given) (H : History) (is : IsNoted old new H) → Spells noted_lines IsNotedWithin old new (noted old new H is)
spelt old new H is = record { within = is.within; gives = is.gives }

-- nothing follows
pub whole_journal : (bytes : List ℕ) (end : Given) (H : History) → IsNoted (start_of bytes) end H → end.rest ≡ [] → IsJournalText bytes (Ok H)
whole_journal bytes end H is none =
    let v = noted (start_of bytes) end H is in
    (v, refl, whole_text noted_lines IsNotedWithin bytes end v (spelt (start_of bytes) end H is) none)

-- bytes follow
pub trailed_journal : (bytes : List ℕ) (end : Given) (H : History) (e : TextError) → IsNoted (start_of bytes) end H → e ≡ Trailing (end.given + 1) →
    (end.rest ≡ [] → ⊥) → IsJournalText bytes (Err e)
trailed_journal bytes end H e is at some =
    trailed_text noted_lines IsNotedWithin bytes end (noted (start_of bytes) end H is) e (spelt (start_of bytes) end H is) at some
