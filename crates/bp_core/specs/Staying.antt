-- What stays as it is while a history grows.
use Rattle.std.specs.Prelude.{◌≡◌, ℕ, ◌≤◌, ◌++◌, length}
use Rattle.bp_types.specs.House.{Inn, opening}
use Rattle.bp_core.specs.declared.line.Act.{Act}
use Rattle.bp_core.specs.declared.call.Call.{Call}
use Rattle.bp_core.specs.declared.call.Answer.{Answer}
use Rattle.bp_core.specs.Lines.{History, calls, last_number}
use Rattle.bp_core.specs.Callers.{may_log}
use Rattle.bp_core.specs.Instance.{instance_at}
use Rattle.bp_core.specs.Changes.{changes_between, deltas_between}
use Rattle.bp_core.specs.Acting.{Diary, IsCallRight, IsAnswered}
use Rattle.bp_core.specs.Calls.{Continues}

-- the one history begins with the other
abbrev pub IsPrefix : History → History → Type 0
IsPrefix G H = (rest : History) × (H ≡ G ++ rest)

-- a board or a quote that is right for a history is right for each longer one
abbrev pub RightStaysRight : Type 0
RightStaysRight = (h : Inn) (G H : History) (call : Call) → IsPrefix G H → IsCallRight h G call → IsCallRight h H call

-- whatever a call is answered, the house is the same and the history goes on
abbrev pub AnsweredContinues : Type 0
AnsweredContinues = (old new : Diary) (caller : ℕ) (call : Call) (answer : Answer) → IsAnswered old new caller call answer → Continues old new

-- a history that goes on begins with the one before
abbrev pub ContinuedIsPrefix : Type 0
ContinuedIsPrefix = (old new : Diary) → Continues old new → IsPrefix old.history new.history

-- whether a caller may log depends on its own entries alone
abbrev pub MayLogByOwn : Type 0
MayLogByOwn = (G H : History) (caller : ℕ) (act : Act) → calls G caller ≡ calls H caller → may_log G caller act ≡ may_log H caller act

-- up to a later place there are no fewer changes
abbrev pub ChangesGrow : Type 0
ChangesGrow = (H : History) (a b c : ℕ) → b ≤ c → changes_between H a b ≤ changes_between H a c

-- the number of the last vector does not fall
abbrev pub NumberNeverFalls : Type 0
NumberNeverFalls = (G H : History) → IsPrefix G H → last_number G ≤ last_number H

-- the changes between two positions stand there in each longer history
abbrev pub ChangesStay : Type 0
ChangesStay = (G H : History) (a b : ℕ) → IsPrefix G H → b ≤ length G → changes_between H a b ≡ changes_between G a b

-- the instance at a position is the same in each longer history
abbrev pub InstanceStays : Type 0
InstanceStays = (h : Inn) (G H : History) (position : ℕ) → IsPrefix G H → position ≤ length G → instance_at h H position ≡ instance_at h G position

-- before any line the instance is that of the house
abbrev pub InstanceAtStart : Type 0
InstanceAtStart = (h : Inn) (H : History) → instance_at h H 0 ≡ opening h

-- what stands up to a position and what stands from there on is what stands in both
abbrev pub DeltasAppend : Type 0
DeltasAppend = (h : Inn) (H : History) (a b c : ℕ) → a ≤ b → b ≤ c → deltas_between h H a b ++ deltas_between h H b c ≡ deltas_between h H a c

-- what the entries between two positions change is the same in each longer history
abbrev pub DeltasLast : Type 0
DeltasLast = (h : Inn) (G H : History) (a b : ℕ) → IsPrefix G H → a ≤ b → b ≤ length G → deltas_between h H a b ≡ deltas_between h G a b
