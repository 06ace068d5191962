-- The files of a hotel: the hotel file, and the tables that rest on it.
use Rattle.std.specs.Prelude.{◌≡◌, ℕ, List, Ok, Err}
use Rattle.bp_types.specs.declared.limits.TheConstants.{MOST_FILE_BYTES}
use Rattle.bp_hotelfile.specs.Season.{Season, season_of}
use Rattle.bp_stayfile.specs.StayList.{StayList}
use Rattle.bp_stayfile.specs.Stays.{stays_file}
use Rattle.bp_stayfile.specs.Forecasts.{forecast_file}
use Rattle.bp_stayfile.specs.Bookings.{bookings_file}
use Rattle.bp_text.specs.Words.{Word}
use Rattle.bp_inputs.specs.Stages.{Stage}
use Rattle.bp_inputs.specs.declared.cause.FileError.{FileError}
use Rattle.bp_inputs.specs.declared.cause.FileError.TheVariants.{Text, Hotel, Table}

-- the bytes are no hotel file, for this reason
abbrev pub IsNoHotel : List ℕ → FileError → Type 0
IsNoHotel bytes (Text e) = ⊥
IsNoHotel bytes (Hotel e) = season_of bytes ≡ Err e
IsNoHotel bytes (Table e) = ⊥

-- a hotel
abbrev pub hotel_file : Word → Stage
hotel_file name = record {
  name = name;
  most = MOST_FILE_BYTES;
  Value = Season;
  Accepts = λ bytes season. season_of bytes ≡ Ok season;
  Refuses = IsNoHotel;
}

-- the bytes are no stays file of the hotel, for this reason
abbrev pub AreNoStays : Season → List ℕ → FileError → Type 0
AreNoStays season bytes (Text e) = ⊥
AreNoStays season bytes (Hotel e) = ⊥
AreNoStays season bytes (Table e) = stays_file season bytes ≡ Err e

-- the stays of a hotel with their codes, nothing forecast yet
abbrev pub stays_of_hotel : Season → Word → Stage
stays_of_hotel season name = record {
  name = name;
  most = MOST_FILE_BYTES;
  Value = StayList;
  Accepts = λ bytes stays. stays_file season bytes ≡ Ok stays;
  Refuses = AreNoStays season;
}

-- the bytes are no forecast file of the stays, for this reason
abbrev pub IsNoForecast : StayList → List ℕ → FileError → Type 0
IsNoForecast stays bytes (Text e) = ⊥
IsNoForecast stays bytes (Hotel e) = ⊥
IsNoForecast stays bytes (Table e) = forecast_file stays bytes ≡ Err e

-- the stays with their forecasts
abbrev pub forecast_of_stays : StayList → Word → Stage
forecast_of_stays stays name = record {
  name = name;
  most = MOST_FILE_BYTES;
  Value = StayList;
  Accepts = λ bytes now. forecast_file stays bytes ≡ Ok now;
  Refuses = IsNoForecast stays;
}

-- the bytes are no bookings file of the hotel and its stays, for this reason
abbrev pub AreNoBookings : Season → StayList → List ℕ → FileError → Type 0
AreNoBookings season stays bytes (Text e) = ⊥
AreNoBookings season stays bytes (Hotel e) = ⊥
AreNoBookings season stays bytes (Table e) = bookings_file season.rooms stays bytes ≡ Err e

-- the rooms sold of each night, by the hotel and its stays
abbrev pub bookings_of_hotel : Season → StayList → Word → Stage
bookings_of_hotel season stays name = record {
  name = name;
  most = MOST_FILE_BYTES;
  Value = List ℕ;
  Accepts = λ bytes sold. bookings_file season.rooms stays bytes ≡ Ok sold;
  Refuses = AreNoBookings season stays;
}
