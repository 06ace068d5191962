-- Laws of the tables.
use Rattle.std.specs.Prelude.{◌≡◌, ℕ, List, length, None, Ok}
use Rattle.bp_types.specs.declared.stay.Stay.{Stay}
use Rattle.bp_types.specs.House.{house_refusal}
use Rattle.bp_hotelfile.specs.Season.{Season, IsSeason}
use Rattle.bp_stayfile.specs.StayList.{StayList, AreStays, IsStayList}
use Rattle.bp_stayfile.specs.Stays.{stays_file}
use Rattle.bp_stayfile.specs.Forecasts.{forecast_file}
use Rattle.bp_stayfile.specs.Bookings.{bookings_file, AreSold}

-- what a stays file says keeps to every limit, within the nights of its hotel
abbrev pub FilesGiveStays : Type 0
FilesGiveStays = (season : Season) (bytes : List ℕ) (list : StayList)
    → stays_file season bytes ≡ Ok list → IsStayList list × (list.nights ≡ length season.rooms)

-- a forecast file leaves codes and nights as they are, and every stay within its limits
abbrev pub ForecastsKeepLimits : Type 0
ForecastsKeepLimits = (list new : StayList) (bytes : List ℕ) → IsStayList list
    → forecast_file list bytes ≡ Ok new → IsStayList new × (new.nights ≡ list.nights) × (new.codes ≡ list.codes)

-- the rooms that a bookings file takes are there
abbrev pub BookingsFit : Type 0
BookingsFit = (rooms : List ℕ) (list : StayList) (bytes sold : List ℕ) → bookings_file rooms list bytes ≡ Ok sold → AreSold rooms sold

-- a house of what a hotel's files say breaks no limit
abbrev pub HousesAreInLimits : Type 0
HousesAreInLimits = (season : Season) (stays : List Stay) (sold : List ℕ)
    → IsSeason season → AreStays (length season.rooms) stays → AreSold season.rooms sold
    → house_refusal season.rooms sold stays season.limits ≡ None
