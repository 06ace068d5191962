-- The entries that change the instance, and the changes that they make.
use Rattle.std.specs.Prelude.{ℕ, ◌*◌, ◌-◌, Bool, true, false, nat_le, if◌then◌else◌, List, [], ◌∷◌, ◌++◌, length, take, drop, count_by, unwrap_or}
use Rattle.std.specs.List.{flat_map, range_with_len}
use Rattle.std.specs.Option.{option_map_or}
use Rattle.bp_types.specs.declared.stay.Span.{Span}
use Rattle.bp_types.specs.declared.change.Change.{Change}
use Rattle.bp_types.specs.declared.change.Change.TheVariants.{Rooms, Demand, Rate}
use Rattle.bp_types.specs.declared.command.Command.{Command}
use Rattle.bp_types.specs.declared.command.Command.TheVariants.{Book, Cancel, Reforecast, Reprice, Resize, Group}
use Rattle.bp_types.specs.Displacement.{night_span}
use Rattle.bp_types.specs.House.{Inn}
use Rattle.bp_core.specs.declared.line.Act.{Act}
use Rattle.bp_core.specs.declared.line.Act.TheVariants.{Do}
use Rattle.bp_core.specs.declared.line.Reply.{Reply}
use Rattle.bp_core.specs.declared.line.Line.{Line}
use Rattle.bp_core.specs.Lines.{History, line_at, nth_book, booked_stay, is_accepted, is_cancelled, is_done, is_group_accepted}
use Rattle.bp_core.specs.Instance.{span_of, rooms_at, forecast_of}

-- a command with this reply changes the instance
abbrev pub command_changes : Command → Reply → Bool
command_changes (Book stay) reply = true
command_changes (Cancel nth) reply = is_cancelled reply
command_changes (Reforecast stay count) reply = true
command_changes (Reprice stay rate) reply = true
command_changes (Resize night rooms) reply = is_done reply
command_changes (Group span rooms amount) reply = is_group_accepted reply

-- an entry that changes the instance
abbrev pub act_changes : Act → Reply → Bool
act_changes (Do command) reply = command_changes command reply
act_changes _ reply = false

-- a line that is a change
abbrev pub is_change : Line → Bool
is_change x = act_changes x.entry.act x.entry.reply

-- the changes at the places from one up to, and not including, another
abbrev pub changes_between : History → ℕ → ℕ → ℕ
changes_between H a b = count_by is_change (drop a (take b H))

-- the changes at the places from one on
abbrev pub changes_after : History → ℕ → ℕ
changes_after H a = changes_between H a (length H)

-- the nights of a caller's nth booking
abbrev pub span_booked : Inn → History → ℕ → ℕ → Span
span_booked h H caller nth =
    span_of h (option_map_or (λ (x : Line). unwrap_or (booked_stay x.entry.act) 0) (nth_book H caller nth) 0)

-- by how many units a Resize moves the rooms, up where they are not fewer than before
abbrev pub resize_delta : ℕ → ℕ → ℕ → ℕ → Change
resize_delta unit night old new =
    Rooms (night_span night) (nat_le old new) (unit * (if nat_le old new then new - old else old - new))

-- the change, where it is made
abbrev pub only_if : Bool → Change → List Change
only_if b change = if b then change ∷ [] else []

-- what a command with this reply changes after a history; the forecast is the one after it
abbrev pub command_deltas : Inn → History → Line → Command → List Change
command_deltas h H x (Book stay) =
    only_if (is_accepted x.entry.reply) (Rooms (span_of h stay) false h.limits.unit) ++ Demand stay (forecast_of h (H ++ x ∷ []) stay) ∷ []
command_deltas h H x (Cancel nth) =
    only_if (is_cancelled x.entry.reply) (Rooms (span_booked h H x.entry.caller nth) true h.limits.unit)
command_deltas h H x (Reforecast stay count) = Demand stay count ∷ []
command_deltas h H x (Reprice stay rate) = Rate stay rate ∷ []
command_deltas h H x (Resize night rooms) =
    only_if (is_done x.entry.reply) (resize_delta h.limits.unit night (rooms_at h H night) rooms)
command_deltas h H x (Group span rooms amount) =
    only_if (is_group_accepted x.entry.reply) (Rooms span false (h.limits.unit * rooms))

-- what an act changes after a history
abbrev pub act_deltas : Inn → History → Line → Act → List Change
act_deltas h H x (Do command) = command_deltas h H x command
act_deltas h H x _ = []

-- what a line changes after a history
abbrev pub deltas_of : Inn → History → Line → List Change
deltas_of h H x = act_deltas h H x x.entry.act

-- what the line at a place changes
abbrev pub deltas_at : Inn → History → ℕ → List Change
deltas_at h H i = deltas_of h (take i H) (line_at H i)

-- the changes of the places from one up to, and not including, another
abbrev pub deltas_between : Inn → History → ℕ → ℕ → List Change
deltas_between h H a b = flat_map (deltas_at h H) (range_with_len a (b - a))
