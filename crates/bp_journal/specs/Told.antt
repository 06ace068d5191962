-- What the words of a line tell: an act and a reply, of which a number may be above its limit.
use Rattle.std.specs.Prelude.{◌≡◌, Bool, true, List, ◌++◌, map, Option, Some, None, MatchBool}
use Rattle.bp_text.specs.Numbers.{spelled}
use Rattle.bp_text.specs.Words.{Word, phrase, IsCounted}
use Rattle.bp_text.specs.declared.words.Counted.{Counted}
use Rattle.bp_core.specs.declared.line.Act.{Act}
use Rattle.bp_core.specs.declared.line.Entry.{Entry}
use Rattle.bp_core.specs.declared.line.Reply.{Reply}
use Rattle.bp_journal.specs.declared.limits.TheConstants.{MOST_HALF}
use Rattle.bp_journal.specs.declared.version.Version.{Version}
use Rattle.bp_journal.specs.declared.found.Found.{Found}
use Rattle.bp_journal.specs.declared.found.Found.TheVariants.{Bad, Great, Whole}
use Rattle.bp_journal.specs.declared.told.ToldAct.{ToldAct}
use Rattle.bp_journal.specs.declared.told.ToldReply.{ToldReply}
use Rattle.bp_journal.specs.Acts.{act_word, act_numbers, reply_word, reply_numbers}
use Rattle.bp_journal.specs.Journals.{is_known}
use Rattle.bp_journal.specs.Limits.{IsActWithin, IsReplyWithin, IsEntryWithin}

-- this very value was told and is within its limits, or a number of it is above one
abbrev pub IsTold : {X : Type 0} → (X → Type 0) → X → X → Bool → Type 0
IsTold Within a told great = MatchBool great (Within a → ⊥) (Within a × (told ≡ a))

-- an act was told; its word in any case
pub record IsActTold (a : Act) (t : ToldAct) : Type 0 where
  pub word : act_word t.act ≡ act_word a
  pub told : IsTold IsActWithin a t.act t.great

-- a reply was told
abbrev pub IsReplyTold : Reply → ToldReply → Type 0
IsReplyTold r t = IsTold IsReplyWithin r t.reply t.great

-- behind this word the numbers of an act stand, or they do not
abbrev pub IsActBehind : Word → List Word → List Word → Option ToldAct → Type 0
IsActBehind word old new None = (a : Act) (more : List Word) → act_word a ≡ word → (old ≡ map spelled (act_numbers a) ++ more) → ⊥
IsActBehind word old new (Some t) = (a : Act) × (act_word a ≡ word) × (old ≡ map spelled (act_numbers a) ++ new) × IsActTold a t

-- the words begin with those of an act that the version knows, or they do not
abbrev pub IsActRead : Version → List Word → List Word → Option ToldAct → Type 0
IsActRead version old new None = (a : Act) (more : List Word) → is_known version a ≡ true → (old ≡ phrase (act_word a) (act_numbers a) ++ more) → ⊥
IsActRead version old new (Some t) = (a : Act) × (is_known version a ≡ true) × (old ≡ phrase (act_word a) (act_numbers a) ++ new) × IsActTold a t

-- behind this word the numbers of a reply that fits stand, or they do not
abbrev pub IsReplyBehind : (Reply → Bool) → Word → List Word → List Word → Option ToldReply → Type 0
IsReplyBehind fits word old new None = (r : Reply) (more : List Word) → fits r ≡ true → reply_word r ≡ word → (old ≡ map spelled (reply_numbers r) ++ more) → ⊥
IsReplyBehind fits word old new (Some t) = (r : Reply) × (fits r ≡ true) × (reply_word r ≡ word) × (old ≡ map spelled (reply_numbers r) ++ new) ×
    IsReplyTold r t

-- the words begin with those of a reply that fits, or they do not
abbrev pub IsReplyRead : (Reply → Bool) → List Word → List Word → Option ToldReply → Type 0
IsReplyRead fits old new None = (r : Reply) (more : List Word) → fits r ≡ true → (old ≡ phrase (reply_word r) (reply_numbers r) ++ more) → ⊥
IsReplyRead fits old new (Some t) = (r : Reply) × (fits r ≡ true) × (old ≡ phrase (reply_word r) (reply_numbers r) ++ new) × IsReplyTold r t

-- an entry's caller, act and reply were told
pub record IsEntryTold (e : Entry) (caller : Counted) (act : ToldAct) (reply : ToldReply) : Type 0 where
  pub caller_is : IsCounted MOST_HALF e.caller caller
  pub act_is : IsActTold e.act act
  pub reply_is : IsReplyTold e.reply reply

-- what is found of an entry that was told
abbrev pub IsEntryFound : Entry → Found → Type 0
IsEntryFound e Bad = ⊥
IsEntryFound e Great = IsEntryWithin e → ⊥
IsEntryFound e (Whole f) = IsEntryWithin e × (f ≡ e)
