-- The rooms, rooms sold, forecasts and rates after a history, and the linear program that they make.
use Rattle.std.specs.Prelude.{
  ℕ,
  ◌+◌,
  ◌*◌,
  ◌-◌,
  Bool,
  not,
  ◌&&◌,
  ◌==◌,
  if◌then◌else◌,
  length,
  map,
  take,
  drop,
  count_by,
  slice_index,
  slice_index_or,
  Option,
  Some,
  None,
  is_some,
  unwrap_or,
}
use Rattle.std.specs.List.{list_any, range_with_len, sum_by}
use Rattle.bp_types.specs.declared.stay.Span.{Span}
use Rattle.bp_types.specs.declared.stay.Stay.{Stay}
use Rattle.bp_types.specs.declared.command.Command.TheVariants.{Reforecast, Reprice, Resize, Group}
use Rattle.bp_types.specs.Sums.{sum_below}
use Rattle.bp_types.specs.Program.{Program, no_stay, covers}
use Rattle.bp_types.specs.House.{Inn}
use Rattle.bp_core.specs.declared.line.Act.{Act}
use Rattle.bp_core.specs.declared.line.Act.TheVariants.{Do}
use Rattle.bp_core.specs.declared.line.Line.{Line}
use Rattle.bp_core.specs.Lines.{History, line_at, last_value, since, booked_stay, is_book, is_book_by, is_accepted, is_cancellation, is_done, is_group_accepted}

-- a stay of the house, by its number
abbrev pub house_stay : Inn → ℕ → Stay
house_stay h j = slice_index_or h.stays j no_stay

-- the nights that a stay of the house covers
abbrev pub span_of : Inn → ℕ → Span
span_of h j = (house_stay h j).span

-- the rooms that a Resize sets on a night
abbrev pub resize_rooms : ℕ → Act → Option ℕ
resize_rooms n (Do (Resize night rooms)) = if night == n then Some rooms else None
resize_rooms n _ = None

-- the same, of one that was done
abbrev pub resized_rooms : ℕ → Line → Option ℕ
resized_rooms n x = if is_done x.entry.reply then resize_rooms n x.entry.act else None

-- the rooms of a night: those of the last Resize that was done, or the house's
abbrev pub rooms_at : Inn → History → ℕ → ℕ
rooms_at h H n = last_value (resized_rooms n) (slice_index h.rooms n) H

-- the Book at a place is which of its caller's, counted from 1
abbrev pub book_number : History → ℕ → ℕ
book_number H i = count_by (is_book_by (line_at H i).entry.caller) (take (i + 1) H)

-- the caller gives up the booking at a place later on
abbrev pub is_given_up : History → ℕ → Bool
is_given_up H i = list_any (is_cancellation (line_at H i).entry.caller (book_number H i)) (drop (i + 1) H)

-- a booking was accepted at this place, and is not given up later
abbrev pub is_live : History → ℕ → Bool
is_live H i = (is_book (line_at H i) && is_accepted (line_at H i).entry.reply) && not (is_given_up H i)

-- the stay that the Book at a place names
abbrev pub stay_booked : History → ℕ → ℕ
stay_booked H i = unwrap_or (booked_stay (line_at H i).entry.act) 0

-- a live booking at this place covers the night
abbrev pub holds_room : Inn → History → ℕ → ℕ → Bool
holds_room h H n i = is_live H i && covers (span_of h (stay_booked H i)) n

-- the rooms that a Group asks for on a night
abbrev pub group_rooms : ℕ → Act → ℕ
group_rooms n (Do (Group span rooms amount)) = if covers span n then rooms else 0
group_rooms n _ = 0

-- the same, of one that was accepted
abbrev pub rooms_of_group : ℕ → Line → ℕ
rooms_of_group n x = if is_group_accepted x.entry.reply then group_rooms n x.entry.act else 0

-- the sold rooms of a night: the house's, one for each live booking, and those of the groups
abbrev pub sold_at : Inn → History → ℕ → ℕ
sold_at h H n =
    slice_index h.sold n + sum_below (λ i. if holds_room h H n i then 1 else 0) (length H) + sum_by (rooms_of_group n) H

-- the rooms left on a night
abbrev pub rooms_left_at : Inn → History → ℕ → ℕ
rooms_left_at h H n = rooms_at h H n - sold_at h H n

-- the count that a Reforecast sets for a stay
abbrev pub reforecast_count : ℕ → Act → Option ℕ
reforecast_count j (Do (Reforecast stay count)) = if stay == j then Some count else None
reforecast_count j _ = None

-- a Reforecast of the stay
abbrev pub is_reforecast_of : ℕ → Line → Bool
is_reforecast_of j x = is_some (reforecast_count j x.entry.act)

-- a Book of the stay, whatever its reply
abbrev pub is_book_of : ℕ → Line → Bool
is_book_of j x = is_book x && (unwrap_or (booked_stay x.entry.act) 0 == j)

-- the forecast of a stay: the last one set, less one stay for each Book since, and not below 0
abbrev pub forecast_of : Inn → History → ℕ → ℕ
forecast_of h H j =
    last_value (λ (x : Line). reforecast_count j x.entry.act) (house_stay h j).forecast H - h.limits.unit * count_by (is_book_of j)
    (since (is_reforecast_of j) H)

-- the rate that a Reprice sets for a stay
abbrev pub reprice_rate : ℕ → Act → Option ℕ
reprice_rate j (Do (Reprice stay rate)) = if stay == j then Some rate else None
reprice_rate j _ = None

-- the rate of a stay: the last one set
abbrev pub rate_of : Inn → History → ℕ → ℕ
rate_of h H j = last_value (λ (x : Line). reprice_rate j x.entry.act) (house_stay h j).rate H

-- a stay with its rate and forecast after the history
abbrev pub stay_now : Inn → History → ℕ → Stay
stay_now h H j = record { span = span_of h j; rate = rate_of h H j; forecast = forecast_of h H j }

-- the units left on a night
abbrev pub units_left_at : Inn → History → ℕ → ℕ
units_left_at h H n = h.limits.unit * rooms_left_at h H n

-- the instance after a history: the units left on each night, and the stays as they are now
abbrev pub instance_of : Inn → History → Program
instance_of h H =
    record {
      rooms = map (units_left_at h H) (range_with_len 0 (length h.rooms));
      stays = map (stay_now h H) (range_with_len 0 (length h.stays));
    }

-- the instance at a position, that is after so many lines
abbrev pub instance_at : Inn → History → ℕ → Program
instance_at h H position = instance_of h (take position H)
