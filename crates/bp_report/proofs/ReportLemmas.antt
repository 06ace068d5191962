-- The text of the tables is a report, whoever dated its nights.
use Rattle.std.proofs.Common.{◌≡◌, ℕ, List, length, refl, sym, subst}
use Rattle.bp_types.specs.House.{Inn}
use Rattle.bp_hotelfile.specs.Season.{Season}
use Rattle.bp_core.specs.Lines.{History}
use Rattle.bp_text.specs.Lines.{text_of}
use Rattle.bp_report.specs.Tables.{AreDates, IsReport, report_lines}

pub is_report : (season : Season) (stay_codes : List (List ℕ)) (h : Inn) (H : History) (dates : List (List ℕ)) → length h.rooms ≡ length season.rooms →
    AreDates season (length season.rooms) dates → IsReport season stay_codes h H (text_of (report_lines dates stay_codes h H))
is_report season stay_codes h H dates nights are =
    record { dates = dates; dates_are = subst (λ n. AreDates season n dates) (sym nights) are; text_is = refl }
