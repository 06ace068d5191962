-- How great the numbers of a journal may be.
use Rattle.std.specs.Prelude.{ℕ, ◌≤◌, All, MatchOption}
use Rattle.bp_types.specs.declared.command.Command.{Command}
use Rattle.bp_types.specs.declared.command.Command.TheVariants.{Book, Cancel, Reforecast, Reprice, Resize, Group}
use Rattle.bp_cert.specs.Texts.{IsSpeakable, IsWord}
use Rattle.bp_core.specs.declared.line.Act.{Act}
use Rattle.bp_core.specs.declared.line.Act.TheVariants.{Do, Publish, Enrol, Leave}
use Rattle.bp_core.specs.declared.line.Entry.{Entry}
use Rattle.bp_core.specs.declared.line.Reply.{Reply}
use Rattle.bp_core.specs.declared.line.Reply.TheVariants.{Accepted, TooLow, NoRoom, BelowSold, GroupAccepted, GroupTooLow, GroupNoRoom, Vector}
use Rattle.bp_core.specs.declared.line.Line.{Line}
use Rattle.bp_types.specs.declared.limits.TheConstants.{MOST_VALUE}
use Rattle.bp_journal.specs.Journals.{Noted}

-- a number that fits half a machine word
abbrev pub IsHalfWord : ℕ → Type 0
IsHalfWord n = n ≤ 4294967295

-- the numbers of a command are within their limits
abbrev pub IsCommandWithin : Command → Type 0
IsCommandWithin (Book stay) = IsHalfWord stay
IsCommandWithin (Cancel nth) = IsWord nth
IsCommandWithin (Reforecast stay count) = IsHalfWord stay × IsWord count
IsCommandWithin (Reprice stay rate) = IsHalfWord stay × IsWord rate
IsCommandWithin (Resize night rooms) = IsHalfWord night × IsWord rooms
IsCommandWithin (Group span rooms amount) = IsHalfWord span.from × IsHalfWord span.to × IsWord rooms × IsWord amount

-- the numbers of an act are within their limits
abbrev pub IsActWithin : Act → Type 0
IsActWithin (Do command) = IsCommandWithin command
IsActWithin (Publish position) = IsWord position
IsActWithin Enrol = Unit {0}
IsActWithin Leave = Unit {0}

-- the numbers of a reply are within their limits
abbrev pub IsReplyWithin : Reply → Type 0
IsReplyWithin (Accepted vector sum) = IsWord vector × IsWord sum
IsReplyWithin (TooLow vector sum rate) = IsWord vector × IsWord sum × IsWord rate
IsReplyWithin (NoRoom vector sum night) = IsWord vector × IsWord sum × IsHalfWord night
IsReplyWithin (BelowSold sold) = IsWord sold
IsReplyWithin (GroupAccepted displacement) = displacement ≤ MOST_VALUE
IsReplyWithin (GroupTooLow displacement) = displacement ≤ MOST_VALUE
IsReplyWithin (GroupNoRoom night) = IsHalfWord night
IsReplyWithin (Vector number) = IsWord number
IsReplyWithin _ = Unit {0}

-- the numbers of an entry are within their limits
pub record IsEntryWithin (e : Entry) : Type 0 where
  pub caller : IsHalfWord e.caller
  pub act : IsActWithin e.act
  pub reply : IsReplyWithin e.reply

-- the numbers of a line are within their limits: those of its entry, and of its certificate if it has one
abbrev pub IsLineWithin : Line → Type 0
IsLineWithin x = IsEntryWithin x.entry × MatchOption x.certificate (Unit {0}) IsSpeakable

-- the numbers of all lines are within their limits
abbrev pub IsNotedWithin : Noted → Type 0
IsNotedWithin v = All IsLineWithin v.1
