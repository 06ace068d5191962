use Rattle.std.proofs.Common.{◌∙◌}
use Rattle.bp_stayfile.proofs.StayLemmas.{stays_file-tells}
use Rattle.bp_stayfile.proofs.ForecastLemmas.{forecast_file-tells}
use Rattle.bp_bench.proofs.tables.tables_of.Goals as goal

-- the stays keep the hotel's nights when their forecasts are set
pub read_bookings-requires : goal.read_bookings-requires
read_bookings-requires c =
    let (list, nights) = stays_file-tells c.args.hotel.now _ c.in_ok-stays.stays c.in_ok-stays.ensures.read in
    record { of_hotel = (forecast_file-tells c.in_ok-stays.stays c.read_forecast.new.stays _ list c.in_ok-read_forecast.ensures.read).1 ∙ nights }
