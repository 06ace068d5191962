use Rattle.bp_stayfile.proofs.ForecastLemmas.{forecast_file-tells}
use Rattle.bp_stayfile.proofs.law.forecasts_keep_limits.Goals as goal

pub returns : goal.returns
returns c = forecast_file-tells
