-- Who may act: the opener always, and who has enrolled and not left.
use Rattle.std.specs.Prelude.{ℕ, ◌-◌, Bool, true, false, not, ◌&&◌, ◌||◌, ◌==◌, count_by}
use Rattle.std.specs.List.{list_any, range_with_len}
use Rattle.bp_types.specs.House.{is_from_one}
use Rattle.bp_types.specs.declared.limits.TheConstants.{CALLERS}
use Rattle.bp_core.specs.declared.line.Act.{Act}
use Rattle.bp_core.specs.declared.line.Act.TheVariants.{Enrol, Leave}
use Rattle.bp_core.specs.declared.line.Line.{Line}
use Rattle.bp_core.specs.Lines.{History, is_by}

-- the greatest number of a caller
abbrev pub greatest_caller : ℕ
greatest_caller = CALLERS - 1

-- the act is an enrolment
abbrev pub is_enrol : Act → Bool
is_enrol Enrol = true
is_enrol _ = false

-- the act is a leave
abbrev pub is_leave : Act → Bool
is_leave Leave = true
is_leave _ = false

-- the caller has an entry
abbrev pub has_entry : History → ℕ → Bool
has_entry H caller = list_any (is_by caller) H

-- the entry by which a caller enrolled
abbrev pub is_enrol_by : ℕ → Line → Bool
is_enrol_by caller x = is_by caller x && is_enrol x.entry.act

-- the entry by which a caller left
abbrev pub is_leave_by : ℕ → Line → Bool
is_leave_by caller x = is_by caller x && is_leave x.entry.act

-- the caller has enrolled
abbrev pub has_enrolled : History → ℕ → Bool
has_enrolled H caller = list_any (is_enrol_by caller) H

-- the caller has left
abbrev pub has_left : History → ℕ → Bool
has_left H caller = list_any (is_leave_by caller) H

-- the opener, or a caller that has enrolled and not left
abbrev pub may_act : History → ℕ → Bool
may_act H caller = (caller == 0) || (has_enrolled H caller && not (has_left H caller))

-- a number from 1 to the greatest that has no entry
abbrev pub may_enrol : History → ℕ → Bool
may_enrol H caller = is_from_one greatest_caller caller && not (has_entry H caller)

-- the caller may have this entry next
abbrev pub may_log : History → ℕ → Act → Bool
may_log H caller Enrol = may_enrol H caller
may_log H caller Leave = not (caller == 0) && may_act H caller
may_log H caller _ = may_act H caller

-- how many of the callers from 1 to a number have left
abbrev pub left_of : History → ℕ → ℕ
left_of H sessions = count_by (has_left H) (range_with_len 1 sessions)
