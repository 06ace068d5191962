-- Which lines may want a search, and how many a history makes at most.
use Rattle.std.specs.Prelude.{◌≡◌, ℕ, zero, suc, ◌+◌, ◌-◌, ◌*◌, Bool, true, false, nat_lt, if◌then◌else◌, length, take, Option, Some, None, All}
use Rattle.std.specs.Option.{is_none}
use Rattle.bp_types.specs.declared.command.Command.TheVariants.{Group}
use Rattle.bp_types.specs.House.{Inn}
use Rattle.bp_types.specs.Spans.{first_short}
use Rattle.bp_types.specs.Sums.{sum_below}
use Rattle.bp_flow.specs.Rising.{searches_from_nothing}
use Rattle.bp_warm.specs.Turns.{units_moved_by_all}
use Rattle.bp_core.specs.declared.line.Act.{Act}
use Rattle.bp_core.specs.declared.line.Act.TheVariants.{Do}
use Rattle.bp_core.specs.declared.line.Line.{Line}
use Rattle.bp_core.specs.Lines.{History, line_at}
use Rattle.bp_core.specs.Instance.{instance_of, instance_at, rooms_left_at}
use Rattle.bp_core.specs.Changes.{deltas_between}
use Rattle.bp_judge.specs.declared.solved.TheConstants.{MOST_MOVED}

-- an act that is a Group
abbrev pub is_group : Act → Bool
is_group (Do (Group span rooms amount)) = true
is_group _ = false

-- no line is a Group
abbrev pub HasNoGroup : History → Type 0
HasNoGroup H = All (λ (x : Line). is_group x.entry.act ≡ false) H

-- a Group for which there are rooms: its displacement is to be found
abbrev pub wants_quote : Inn → History → Act → Bool
wants_quote h H (Do (Group span rooms amount)) = is_none (first_short (rooms_left_at h H) span rooms)
wants_quote h H _ = false

-- the last place below another where a displacement was to be found
abbrev pub quoted_below : Inn → History → ℕ → Option ℕ
quoted_below h H zero = None
quoted_below h H (suc n) = if wants_quote h (take n H) (line_at H n).entry.act then Some n else quoted_below h H n

-- the last place of a history with one
abbrev pub last_quoted : Inn → History → Option ℕ
last_quoted h H = quoted_below h H (length H)

-- what the lines from one position up to another move: the units of their changes, and one for each line
abbrev pub moved_between : Inn → History → ℕ → ℕ → ℕ
moved_between h H a b = units_moved_by_all (instance_at h H a) (deltas_between h H a b) + (b - a)

-- where so much is moved, or more, the instance may be solved from nothing
abbrev pub most_moved : Inn → ℕ
most_moved h = h.limits.unit * MOST_MOVED

-- to bring a solver from a position to the end of a history: what is moved, where that is below the bound; else a solve
-- from nothing
abbrev pub searches_from : Inn → History → ℕ → ℕ
searches_from h H position =
    if nat_lt (moved_between h H position (length H)) (most_moved h)
    then moved_between h H position (length H)
    else most_moved h + searches_from_nothing (instance_of h H)

-- to have a solver at the end of a history, where the last one stands at a position, or there is none yet
abbrev pub searches_to_solve : Inn → History → Option ℕ → ℕ
searches_to_solve h H None = searches_from_nothing (instance_of h H)
searches_to_solve h H (Some position) = searches_from h H position

-- for the displacement of so many rooms: one for each of their units, and one for the least prices
abbrev pub searches_to_quote : Inn → ℕ → ℕ
searches_to_quote h rooms = h.limits.unit * rooms + 1

-- what an act after a history may make: a Group for which there are rooms those for a solver and for a quote, all else
-- none
abbrev pub searches_of : Inn → History → Act → ℕ
searches_of h H (Do (Group span rooms amount)) =
    if wants_quote h H (Do (Group span rooms amount))
    then searches_to_solve h H (last_quoted h H) + searches_to_quote h rooms
    else 0
searches_of h H _ = 0

-- what the line at a place may make
abbrev pub searches_at : Inn → History → ℕ → ℕ
searches_at h H i = searches_of h (take i H) (line_at H i).entry.act

-- what all lines together may make
abbrev pub most_searches : Inn → History → ℕ
most_searches h H = sum_below (searches_at h H) (length H)
