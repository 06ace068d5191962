-- The files of a hotel are read in one way. A command that reads them cites `hotel_plan_one_way`.
use Rattle.std.proofs.Common.{ℕ, List}
use Rattle.bp_types.specs.declared.command.Command.{Command}
use Rattle.bp_hotelfile.specs.Season.{Season}
use Rattle.bp_stayfile.specs.StayList.{StayList}
use Rattle.bp_text.specs.Words.{Word}
use Rattle.bp_inputs.specs.Stages.{IsReadOneWay, AreReadOneWay}
use Rattle.bp_inputs.specs.HotelFiles.{hotel_file, stays_of_hotel, forecast_of_stays, bookings_of_hotel}
use Rattle.bp_inputs.specs.ScriptFiles.{script_of_hotel}
use Rattle.bp_inputs.specs.HotelPlan.{HotelNames, hotel_plan}
use Rattle.bp_inputs.specs.declared.cause.FileError.{FileError}
use Rattle.bp_inputs.specs.declared.cause.FileError.TheVariants.{Text, Hotel, Table}

hotel_one_way : (name : Word) → IsReadOneWay (hotel_file name)
hotel_one_way name = record { one_value = λ bytes v w a b. cc; not_both = never }
  where
    never : (bytes : List ℕ) (v : Season) (e : FileError) → (hotel_file name).Accepts bytes v → (hotel_file name).Refuses bytes e → ⊥
    never bytes v (Text e) a refused = refused
    never bytes v (Hotel e) a refused = cc
    never bytes v (Table e) a refused = refused

stays_one_way : (season : Season) (name : Word) → IsReadOneWay (stays_of_hotel season name)
stays_one_way season name = record { one_value = λ bytes v w a b. cc; not_both = never }
  where
    never : (bytes : List ℕ) (v : StayList) (e : FileError) → (stays_of_hotel season name).Accepts bytes v → (stays_of_hotel season name).Refuses bytes e → ⊥
    never bytes v (Text e) a refused = refused
    never bytes v (Hotel e) a refused = refused
    never bytes v (Table e) a refused = cc

forecast_one_way : (stays : StayList) (name : Word) → IsReadOneWay (forecast_of_stays stays name)
forecast_one_way stays name = record { one_value = λ bytes v w a b. cc; not_both = never }
  where
    never : (bytes : List ℕ) (v : StayList) (e : FileError) → (forecast_of_stays stays name).Accepts bytes v →
        (forecast_of_stays stays name).Refuses bytes e → ⊥
    never bytes v (Text e) a refused = refused
    never bytes v (Hotel e) a refused = refused
    never bytes v (Table e) a refused = cc

bookings_one_way : (season : Season) (stays : StayList) (name : Word) → IsReadOneWay (bookings_of_hotel season stays name)
bookings_one_way season stays name = record { one_value = λ bytes v w a b. cc; not_both = never }
  where
    never : (bytes : List ℕ) (v : List ℕ) (e : FileError) → (bookings_of_hotel season stays name).Accepts bytes v →
        (bookings_of_hotel season stays name).Refuses bytes e → ⊥
    never bytes v (Text e) a refused = refused
    never bytes v (Hotel e) a refused = refused
    never bytes v (Table e) a refused = cc

-- all four
pub hotel_plan_one_way : (names : HotelNames) → AreReadOneWay (hotel_plan names)
hotel_plan_one_way names = (
  hotel_one_way names.hotel,
  λ season. (
    stays_one_way season names.stays,
    λ listed. (forecast_one_way listed names.forecast, λ stays. (bookings_one_way season stays names.bookings, λ sold. tt)),
  ),
)

-- and a script of their stays
pub script_one_way : (season : Season) (codes : List (List ℕ)) (name : Word) → IsReadOneWay (script_of_hotel season codes name)
script_one_way season codes name = record { one_value = λ bytes v w a b. cc; not_both = never }
  where
    never : (bytes : List ℕ) (v : List (List Command)) (e : FileError) → (script_of_hotel season codes name).Accepts bytes v →
        (script_of_hotel season codes name).Refuses bytes e → ⊥
    never bytes v (Text e) a refused = refused
    never bytes v (Hotel e) a refused = refused
    never bytes v (Table e) a refused = cc
