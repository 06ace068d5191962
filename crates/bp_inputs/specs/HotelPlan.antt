-- What a hotel's four files say together.
use Rattle.std.specs.Prelude.{ℕ, List}
use Rattle.bp_types.specs.House.{Inn}
use Rattle.bp_hotelfile.specs.Season.{Season}
use Rattle.bp_stayfile.specs.StayList.{StayList}
use Rattle.bp_text.specs.Words.{Word}
use Rattle.bp_inputs.specs.Stages.{Plan, done, ask}
use Rattle.bp_inputs.specs.HotelFiles.{hotel_file, stays_of_hotel, forecast_of_stays, bookings_of_hotel}
use Rattle.bp_inputs.specs.declared.house.OpenHotel.{OpenHotel}
use Rattle.bp_inputs.specs.declared.house.HotelFiles.{HotelFiles}

-- the names of a hotel's four files
pub record HotelNames : Type 0 where
  pub hotel : Word
  pub stays : Word
  pub forecast : Word
  pub bookings : Word

-- the names that a call is given, by their bytes
abbrev pub named : HotelFiles → HotelNames
named n = record { hotel = n.hotel.now; stays = n.stays.now; forecast = n.forecast.now; bookings = n.bookings.now }

-- the house of a hotel, its stays and the rooms sold
abbrev pub house_of : Season → StayList → List ℕ → Inn
house_of season stays sold = record { rooms = season.rooms; sold = sold; stays = stays.stays; limits = season.limits }

-- the hotel, the stays on it, their forecasts, and the bookings on both
abbrev pub hotel_plan : HotelNames → Plan OpenHotel
hotel_plan names =
    ask (hotel_file names.hotel) (λ season.
    ask (stays_of_hotel season names.stays) (λ listed.
    ask (forecast_of_stays listed names.forecast) (λ stays.
    ask (bookings_of_hotel season stays names.bookings) (λ sold.
    done (record { hotel = season; stays = stays; house = house_of season stays sold })))))
