use Rattle.bp_run.proofs.Replays.{runs_are_legal}
use Rattle.bp_run.proofs.law.runs_are_legal.Goals as goal

pub returns : goal.returns
returns c =
    runs_are_legal (record {
      seasons = c.files_give_seasons.ensures;
      stays = c.files_give_stays.ensures;
      forecasts = c.forecasts_keep_limits.ensures;
      bookings = c.bookings_fit.ensures;
      houses = c.houses_are_in_limits.ensures;
      written = c.written_is_read.ensures;
      not_both = c.not_both.ensures;
    })
