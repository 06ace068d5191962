use Rattle.std.proofs.Common.{refl, None}
use Rattle.bp_cli.specs.declared.number.TheConstants.{WORKERS}
use Rattle.bp_cli.specs.Tasks.{FiveNames, desk}
use Rattle.bp_cli.proofs.Meaning.{plain_means}
use Rattle.bp_cli.proofs.desk.is_desk.Goals as goal

pub returns : goal.returns
returns c =
    let a = c.args in
    let names : FiveNames = record { hotel = a.hotel.now; stays = a.stays.now; forecast = a.forecast.now; bookings = a.bookings.now; last = a.script.now } in (
      λ yes. (desk names WORKERS, record { given = None; words_are = refl; file_names = c.are_file_names.ensures.0 yes; workers_are = refl }),
      λ plain. c.are_file_names.ensures.1 (plain_means _ plain).file_names,
    )
