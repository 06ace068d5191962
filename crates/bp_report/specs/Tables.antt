-- The tables of a report: a line for each night, a line for each stay, and the value.
use Rattle.std.specs.Prelude.{◌≡◌, ℕ, ◌+◌, ◌<◌, ◌≤◌, List, [], ◌∷◌, ◌++◌, map, length, slice_index, slice_index_or, slice_get, codes, Some, unwrap_or}
use Rattle.std.specs.List.{range_with_len}
use Rattle.std.specs.Option.{option_map}
use Rattle.bp_types.specs.House.{Inn}
use Rattle.bp_board.specs.Posted.{Posted}
use Rattle.bp_text.specs.Numbers.{spelled}
use Rattle.bp_text.specs.Lines.{Line, line_of, text_of}
use Rattle.bp_hotelfile.specs.Dates.{day_of}
use Rattle.bp_hotelfile.specs.Season.{Season}
use Rattle.bp_core.specs.Lines.{History, boards, last_number, last_prices}
use Rattle.bp_core.specs.Instance.{rooms_at, sold_at, rooms_left_at, forecast_of}
use Rattle.bp_report.specs.declared.tally.Tally.{Tally}
use Rattle.bp_report.specs.Columns.{right, left}
use Rattle.bp_report.specs.Tallies.{tally_of, tallies_of}

-- the columns of the nights
abbrev pub night_row : (night date rooms sold free price : List ℕ) → Line
night_row night date rooms sold free price =
    right 5 night ++ codes " " ++ date ++ right 7 rooms ++ right 7 sold ++ right 7 free ++ right 12 price

-- the names of these columns
abbrev pub night_header : Line
night_header = night_row (codes "night") (left 10 (codes "date")) (codes "rooms") (codes "sold") (codes "left") (codes "price")

-- a night: its date, its rooms, those sold and those left, and its price in the last vector
abbrev pub night_line : Inn → History → List ℕ → ℕ → Line
night_line h H date n =
    night_row (spelled n) date (spelled (rooms_at h H n)) (spelled (sold_at h H n)) (spelled (rooms_left_at h H n)) (spelled (slice_index (last_prices H) n))

-- the columns of the stays
abbrev pub stay_row : (code asked accepted too_low no_room cancelled forecast : List ℕ) → Line
stay_row code asked accepted too_low no_room cancelled forecast =
    left 16 code ++ right 7 asked ++ right 9 accepted ++ right 7 too_low ++ right 7 no_room ++ right 10 cancelled ++ right 9 forecast

-- the names of these columns
abbrev pub stay_header : Line
stay_header = stay_row (codes "stay") (codes "asked") (codes "accepted") (codes "toolow") (codes "noroom") (codes "cancelled") (codes "forecast")

-- a stay: its code, what became of its Books, and its forecast in units
abbrev pub stay_line : List ℕ → Tally → ℕ → Line
stay_line code t forecast =
    stay_row code (spelled t.asked) (spelled t.accepted) (spelled t.too_low) (spelled t.no_room) (spelled t.cancelled) (spelled forecast)

-- the lines of the nights, each with its date
abbrev pub night_lines : List (List ℕ) → Inn → History → ℕ → List Line
night_lines dates h H nights = map (λ n. night_line h H (slice_index_or dates n []) n) (range_with_len 0 nights)

-- the lines of the stays, each with its code
abbrev pub stay_lines : List (List ℕ) → Inn → History → ℕ → List Line
stay_lines stay_codes h H stays =
    map (λ j. stay_line (slice_index_or stay_codes j []) (tally_of H (length H) j) (forecast_of h H j)) (range_with_len 0 stays)

-- the value of the last vector, in units
abbrev pub last_value_of : History → ℕ
last_value_of H = unwrap_or (option_map (λ (b : Posted). b.certificate.value) (slice_get (boards H) (last_number H))) 0

-- both tables, each below its header, and the value
abbrev pub report_lines : (dates stay_codes : List (List ℕ)) → Inn → History → List Line
report_lines dates stay_codes h H =
    night_header ∷ night_lines dates h H (length h.rooms)
    ++ stay_header ∷ stay_lines stay_codes h H (length stay_codes)
    ++ line_of (codes "value") (last_value_of H ∷ []) ∷ []

-- each night has a text that is read as its date
abbrev pub AreDates : Season → ℕ → List (List ℕ) → Type 0
AreDates season nights dates = (n : ℕ) → n < nights → day_of (slice_index_or dates n []) ≡ Some (season.first + n)

-- the report of a history: the tables with the dates of the nights
pub record IsReport (season : Season) (stay_codes : List (List ℕ)) (h : Inn) (H : History) (text : List ℕ) : Type 0 where
  pub dates : List (List ℕ)
  pub dates_are : AreDates season (length h.rooms) dates
  pub text_is : text ≡ text_of (report_lines dates stay_codes h H)

-- what the report of a history is written from: a date for each night, and for each code a stay and its tally
pub record AreReady (dates stay_codes : List (List ℕ)) (h : Inn) (H : History) (tallies : List Tally) : Type 0 where
  pub nights : length h.rooms ≤ length dates
  pub stays : length h.stays ≡ length stay_codes
  pub tallies_are : tallies ≡ tallies_of H (length stay_codes) (length H)
