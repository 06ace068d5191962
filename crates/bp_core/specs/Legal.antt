-- Legal histories: none of eight causes holds at any place.
use Rattle.std.specs.Prelude.{◌≡◌, ℕ, ◌<◌, ◌≤◌, Bool, true, false, ◌&&◌, ◌||◌, ◌==◌, nat_lt, nat_le, IsTrue, length, take, Option, Some, None}
use Rattle.bp_types.specs.declared.command.Command.{Command}
use Rattle.bp_types.specs.declared.command.Command.TheVariants.{Book, Cancel, Reforecast, Reprice, Resize, Group}
use Rattle.bp_types.specs.Claim.{Claim, IsCertificateOf}
use Rattle.bp_types.specs.Spans.{is_within}
use Rattle.bp_types.specs.Limits.{is_rate}
use Rattle.bp_types.specs.House.{Inn, is_from_one}
use Rattle.bp_types.specs.declared.limits.TheConstants.{MOST_FORECAST, MOST_ROOMS, MOST_ENTRIES, MOST_GROUP_ROOMS, MOST_AMOUNT}
use Rattle.bp_core.specs.declared.line.Act.{Act}
use Rattle.bp_core.specs.declared.line.Act.TheVariants.{Do, Publish, Enrol, Leave}
use Rattle.bp_core.specs.declared.line.Line.{Line}
use Rattle.bp_core.specs.Lines.{History, line_at, is_by, commands, vectors, last_position}
use Rattle.bp_core.specs.Callers.{may_log}
use Rattle.bp_core.specs.Instance.{instance_at}
use Rattle.bp_core.specs.Changes.{changes_between, changes_after}
use Rattle.bp_core.specs.Answer.{IsReply}

-- the numbers of a command are within their limits
abbrev pub is_command_in_range : Inn → Command → Bool
is_command_in_range h (Book stay) = nat_lt stay (length h.stays)
is_command_in_range h (Cancel nth) = is_from_one MOST_ENTRIES nth
is_command_in_range h (Reforecast stay count) = nat_lt stay (length h.stays) && nat_le count MOST_FORECAST
is_command_in_range h (Reprice stay rate) = nat_lt stay (length h.stays) && is_rate rate
is_command_in_range h (Resize night rooms) = nat_lt night (length h.rooms) && nat_le rooms MOST_ROOMS
is_command_in_range h (Group span rooms amount) =
    is_within (length h.rooms) span && (is_from_one MOST_GROUP_ROOMS rooms && nat_le amount MOST_AMOUNT)

-- the numbers of an act are within their limits
abbrev pub is_in_range : Inn → Act → Bool
is_in_range h (Do command) = is_command_in_range h command
is_in_range h _ = true

-- a Publish at position 0
abbrev pub is_opening_act : Act → Bool
is_opening_act (Publish position) = position == 0
is_opening_act _ = false

-- the first line is the opener's vector
abbrev pub opens : History → Line → Bool
opens H x = nat_lt 0 (length H) || (is_by 0 x && is_opening_act x.entry.act)

-- there is an entry, or a vector, left to give
abbrev pub is_allowed : Inn → History → Act → Bool
is_allowed h H (Do command) = nat_lt (commands H) h.limits.entries
is_allowed h H (Publish position) = nat_lt (vectors H) h.limits.publications
is_allowed h H _ = true

-- a Book is judged by a vector that is not stale
abbrev pub is_fresh : Inn → History → Act → Bool
is_fresh h H (Do (Book stay)) = nat_lt (changes_after H (last_position H)) h.limits.stale_after
is_fresh h H _ = true

-- a later vector is for a position so far, with a change from the last vector's position up to it
abbrev pub is_newer : History → Act → Bool
is_newer H (Publish position) =
    (length H == 0) || (nat_le position (length H) && nat_le 1 (changes_between H (last_position H) position))
is_newer H _ = true

-- a Publish has a certificate for the instance at its position, and no other act has one
abbrev pub IsCertified : Inn → History → Act → Option Claim → Type 0
IsCertified h H (Publish position) certificate = (c : Claim) × (certificate ≡ Some c) × IsCertificateOf (instance_at h H position) c
IsCertified h H (Do command) certificate = certificate ≡ None
IsCertified h H Enrol certificate = certificate ≡ None
IsCertified h H Leave certificate = certificate ≡ None

-- a line may stand after a history: none of the causes holds, here in their order
pub record IsLegalLine (h : Inn) (H : History) (x : Line) : Type 0 where
  pub opening : IsTrue (opens H x)
  pub caller : IsTrue (may_log H x.entry.caller x.entry.act)
  pub range : IsTrue (is_in_range h x.entry.act)
  pub limit : IsTrue (is_allowed h H x.entry.act)
  pub behind : IsTrue (is_fresh h H x.entry.act)
  pub position : IsTrue (is_newer H x.entry.act)
  pub certificate : IsCertified h H x.entry.act x.certificate
  pub reply : IsReply h H x.entry.caller x.entry.act x.entry.reply

-- there is a line, and each may stand after those before it
pub record IsLegal (h : Inn) (H : History) : Type 0 where
  pub some_line : 1 ≤ length H
  pub lines : (i : ℕ) → i < length H → IsLegalLine h (take i H) (line_at H i)
