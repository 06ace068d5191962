use Rattle.std.proofs.Common.{refl, Some}
use Rattle.bp_cli.specs.Tasks.{FiveNames, desk}
use Rattle.bp_cli.proofs.Meaning.{desk_gives}
use Rattle.bp_cli.proofs.desk.is_desk_by.Goals as goal

pub returns-then-are_file_names : goal.returns-then-are_file_names
returns-then-are_file_names c =
    let a = c.args in
    let names : FiveNames = record { hotel = a.hotel.now; stays = a.stays.now; forecast = a.forecast.now; bookings = a.bookings.now; last = a.script.now } in
    let file_names = c.are_file_names.ensures.0 c.if-are_file_names.true in (
      λ yes. (let (option, workers, number, few) = c.are_workers.ensures.0 yes in
          (desk names workers, record { given = Some a.workers.now; words_are = rw option refl; file_names = file_names; workers_are = (number, few) })),
      λ plain. c.are_workers.ensures.1 (desk_gives names a.option.now a.workers.now plain).1,
    )
