-- Laws of the hotel file.
use Rattle.std.specs.Prelude.{◌≡◌, ◌≢◌, ℕ, List, Some, Ok}
use Rattle.bp_hotelfile.specs.Dates.{day_of}
use Rattle.bp_hotelfile.specs.Season.{Season, season_of, IsSeason}

-- what a hotel file says keeps to every limit
abbrev pub FilesGiveSeasons : Type 0
FilesGiveSeasons = (bytes : List ℕ) (season : Season) → season_of bytes ≡ Ok season → IsSeason season

-- a day has one text, and two days have two
pub record DaysHaveOneText : Type 0 where
  pub one : (day : ℕ) (a b : List ℕ) → day_of a ≡ Some day → day_of b ≡ Some day → a ≡ b
  pub two : (day later : ℕ) (a b : List ℕ) → day ≢ later → day_of a ≡ Some day → day_of b ≡ Some later → a ≢ b
