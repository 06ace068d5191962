-- What the desk promises of every legal history, in the words of the hotel.
use Rattle.std.specs.Prelude.{◌≡◌, ℕ, ◌<◌, ◌≤◌, ◌↔◌, true, length, take, Some}
use Rattle.std.specs.Arc.{arc_value}
use Rattle.bp_types.specs.declared.stay.Span.{Span}
use Rattle.bp_types.specs.declared.command.Command.TheVariants.{Book}
use Rattle.bp_types.specs.Claim.{Claim}
use Rattle.bp_types.specs.Program.{price}
use Rattle.bp_types.specs.Optimum.{IsOptimum}
use Rattle.bp_types.specs.House.{Inn}
use Rattle.bp_core.specs.declared.line.Act.TheVariants.{Do, Publish}
use Rattle.bp_core.specs.declared.line.Reply.{Reply}
use Rattle.bp_core.specs.declared.call.Call.{Call}
use Rattle.bp_core.specs.declared.call.Call.TheVariants.{Publish as PublishCall}
use Rattle.bp_core.specs.declared.call.Answer.TheVariants.{Logged}
use Rattle.bp_core.specs.Lines.{History, line_at, is_accepted, last_position, last_prices}
use Rattle.bp_core.specs.Instance.{span_of, rate_of, rooms_left_at, instance_at}
use Rattle.bp_core.specs.Changes.{changes_between}
use Rattle.bp_core.specs.Legal.{IsLegal}
use Rattle.bp_core.specs.Acting.{Diary, IsAnswered}

-- every night of the span has a room
abbrev pub HasRooms : Inn → History → Span → Type 0
HasRooms h H span = (n : ℕ) → span.from ≤ n → n < span.to → 1 ≤ rooms_left_at h H n

-- the rate of the stay is at least the sum of the prices of its nights in the last vector
abbrev pub PaysPrices : Inn → History → ℕ → Type 0
PaysPrices h H stay = price (last_prices H) (span_of h stay) ≤ rate_of h H stay

-- a Book is accepted exactly where its rate pays the prices of the last vector before it and there is room
abbrev pub AcceptedExactly : Type 0
AcceptedExactly =
    (h : Inn) (H : History) (i stay : ℕ) → IsLegal h H → i < length H → (line_at H i).entry.act ≡ Do (Book stay) →
    (is_accepted (line_at H i).entry.reply ≡ true) ↔ (PaysPrices h (take i H) stay × HasRooms h (take i H) (span_of h stay))

-- the vector at a place has the optimum of the instance at the position that it names as its value
pub record IsOptimalVector (h : Inn) (H : History) (i position : ℕ) : Type 0 where
  pub claim : Claim
  pub certificate : (line_at H i).certificate ≡ Some claim
  pub so_far : position ≤ i
  pub optimum : IsOptimum (instance_at h H position) claim.value

-- so has each
abbrev pub VectorsAreOptimal : Type 0
VectorsAreOptimal =
    (h : Inn) (H : History) (i position : ℕ) → IsLegal h H → i < length H → (line_at H i).entry.act ≡ Publish position → IsOptimalVector h H i position

-- between the last vector's position and that of a later one there is a change
abbrev pub VectorsAreNewer : Type 0
VectorsAreNewer =
    (h : Inn) (H : History) (i position : ℕ) → IsLegal h H → 1 ≤ i → i < length H → (line_at H i).entry.act ≡ Publish position →
    1 ≤ changes_between H (last_position (take i H)) position

-- a board that is to be published has as many changes behind the last vector's position as the call asks for
abbrev pub HasLeast : History → Call → Type 0
HasLeast H (PublishCall board least) = least ≤ changes_between H (last_position H) (arc_value board).position
HasLeast H _ = Unit {0}

-- and had them where it was logged
abbrev pub LeastIsKept : Type 0
LeastIsKept =
    (old new : Diary) (caller : ℕ) (call : Call) (reply : Reply) → IsAnswered old new caller call (Logged reply) → HasLeast old.history call
