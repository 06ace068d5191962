-- The text of a journal, line by line.
use Rattle.std.specs.Prelude.{ℕ, ◌+◌, Bool, true, false, not, ◌&&◌, IsTrue, List, [], ◌∷◌, ◌++◌, Option, Some, None, is_some, codes}
use Rattle.std.specs.List.{list_all}
use Rattle.bp_types.specs.declared.command.Command.TheVariants.{Reprice}
use Rattle.bp_types.specs.Claim.{Claim}
use Rattle.bp_text.specs.Numbers.{spelled}
use Rattle.bp_text.specs.Lines.{Line as TextLine, text_of}
use Rattle.bp_text.specs.Words.{Word, joined, phrase}
use Rattle.bp_cert.specs.Texts.{claim_lines}
use Rattle.bp_core.specs.declared.line.Act.{Act}
use Rattle.bp_core.specs.declared.line.Act.TheVariants.{Do, Publish}
use Rattle.bp_core.specs.declared.line.Entry.{Entry}
use Rattle.bp_core.specs.declared.line.Line.{Line}
use Rattle.bp_core.specs.Lines.{History, line_at}
use Rattle.bp_journal.specs.declared.version.Version.{Version}
use Rattle.bp_journal.specs.declared.version.Version.TheVariants.{One, Two}
use Rattle.bp_journal.specs.Acts.{act_word, act_numbers, reply_word, reply_numbers, is_reply_of}

-- the words of an entry behind its place
abbrev pub entry_words : Entry → List Word
entry_words e = spelled e.caller ∷ (phrase (act_word e.act) (act_numbers e.act) ++ phrase (reply_word e.reply) (reply_numbers e.reply))

-- the entry at a place
abbrev pub entry_text : ℕ → Entry → TextLine
entry_text place e = joined (spelled place) (entry_words e)

-- an act that is no Reprice
abbrev pub is_first_act : Act → Bool
is_first_act (Do (Reprice stay rate)) = false
is_first_act _ = true

-- an act that a version knows: the first one has no Reprice
abbrev pub is_known : Version → Act → Bool
is_known One act = is_first_act act
is_known Two act = true

-- what a journal of a version can have as an entry
abbrev pub is_form : Version → Entry → Bool
is_form version e = is_known version e.act && is_reply_of e.act e.reply

-- there is a certificate exactly where the act is a Publish
abbrev pub has_certificate : Act → Option Claim → Bool
has_certificate (Publish position) c = is_some c
has_certificate _ c = not (is_some c)

-- the lines of a certificate, if there is one
abbrev pub certificate_part : Option Claim → List TextLine
certificate_part None = []
certificate_part (Some c) = claim_lines c

-- the lines of a history from a place on
abbrev pub lines_from : ℕ → History → List TextLine
lines_from place [] = []
lines_from place (x ∷ xs) = entry_text place x.entry ∷ (certificate_part x.certificate ++ lines_from (place + 1) xs)

-- the lines of the entry at a place
abbrev pub place_lines : History → ℕ → List TextLine
place_lines H place = entry_text place (line_at H place).entry ∷ certificate_part (line_at H place).certificate

-- the first line of a version
abbrev pub version_line : Version → TextLine
version_line One = codes "journal 1"
version_line Two = codes "journal 2"

-- the lines of a journal
abbrev pub journal_lines : Version → History → List TextLine
journal_lines version H = version_line version ∷ (lines_from 0 H ++ codes "end" ∷ [])

-- the text of a journal, as it is written
abbrev pub journal_text : History → List ℕ
journal_text H = text_of (journal_lines Two H)

-- a line that a journal of a version can have
abbrev pub is_line_of : Version → Line → Bool
is_line_of version x = is_form version x.entry && has_certificate x.entry.act x.certificate

-- what a journal of a version can say, its numbers apart
abbrev pub is_journal : Version → History → Bool
is_journal version H = list_all (is_line_of version) H

-- a version, and a history that it can say
abbrev pub Noted : Type 0
Noted = (version : Version) × (H : History) × IsTrue (is_journal version H)

-- the lines of what is noted
abbrev pub noted_lines : Noted → List TextLine
noted_lines v = journal_lines v.0 v.1
