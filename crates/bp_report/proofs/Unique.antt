-- A history has one report: the dates of the nights are all that a report has of its own, and a day has one text.
use Rattle.std.proofs.Common.{◌≡◌, ℕ, ◌+◌, ◌<◌, ◌∙◌, ap, sym, arith, List, [], ◌∷◌, ◌++◌, length, map, codes}
use Rattle.std.specs.Prelude.{slice_index_or}
use Rattle.std.specs.List.{range_with_len}
use Rattle.std.proofs.lemmas.List.FromFn.{fill_by_all, get_or-map-range_with_len, length-map-range_with_len}
use Rattle.bp_types.specs.House.{Inn}
use Rattle.bp_text.specs.Lines.{Line, line_of, text_of}
use Rattle.bp_hotelfile.specs.Season.{Season}
use Rattle.bp_hotelfile.specs.Laws.{DaysHaveOneText}
use Rattle.bp_core.specs.Lines.{History}
use Rattle.bp_report.specs.Tables.{night_line, night_lines, night_header, stay_lines, stay_header, last_value_of, report_lines, AreDates}
use Rattle.bp_report.specs.Laws.{ReportsAreUnique}

-- two lists made of functions that are the same on so many numbers
made_alike : {X : Type 0} (f g : ℕ → X) (n : ℕ) (d : X) → ((k : ℕ) → k < n → f k ≡ g k) → map f (range_with_len 0 n) ≡ map g (range_with_len 0 n)
made_alike f g n d same =
    fill_by_all g (map f (range_with_len 0 n)) n d (length-map-range_with_len f 0 n)
    (λ k below. get_or-map-range_with_len f 0 n k k d below (omega arith) ∙ same k below)

-- the lines of the nights, whoever dated them
nights_alike : DaysHaveOneText → (season : Season) (h : Inn) (H : History) (nights : ℕ) (dates others : List (List ℕ))
    → AreDates season nights dates → AreDates season nights others → night_lines dates h H nights ≡ night_lines others h H nights
nights_alike law season h H nights dates others are are_too =
    made_alike (λ n. night_line h H (slice_index_or dates n []) n) (λ n. night_line h H (slice_index_or others n []) n) nights []
    (λ n below. ap (λ (date : List ℕ). night_line h H date n)
    (law.one (season.first + n) (slice_index_or dates n []) (slice_index_or others n []) (are n below) (are_too n below)))

pub reports_are_unique : DaysHaveOneText → ReportsAreUnique
reports_are_unique law season stay_codes h H a b one other =
    let nights = nights_alike law season h H (length h.rooms) one.dates other.dates one.dates_are other.dates_are in
    let lines : report_lines one.dates stay_codes h H ≡ report_lines other.dates stay_codes h H =
    ap (λ (rows : List Line). night_header ∷ rows ++ stay_header ∷ stay_lines stay_codes h H (length stay_codes) ++ line_of (codes "value")
    (last_value_of H ∷ []) ∷ []) nights in
    one.text_is ∙ ap text_of lines ∙ sym other.text_is
