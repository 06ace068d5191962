-- A law over reports.
use Rattle.std.specs.Prelude.{◌≡◌, ℕ, List}
use Rattle.bp_types.specs.House.{Inn}
use Rattle.bp_hotelfile.specs.Season.{Season}
use Rattle.bp_core.specs.Lines.{History}
use Rattle.bp_report.specs.Tables.{IsReport}

-- a history has one report, on the nights of a season and with the codes of its stays
abbrev pub ReportsAreUnique : Type 0
ReportsAreUnique =
    (season : Season) (stay_codes : List (List ℕ)) (h : Inn) (H : History) (a b : List ℕ)
    → IsReport season stay_codes h H a → IsReport season stay_codes h H b → a ≡ b
