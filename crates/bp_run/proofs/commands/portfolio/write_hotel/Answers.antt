use Rattle.bp_edges.proofs.Grows.{Appended-append, AppendedPrefix-append, AppendedPrefix-longer, Writes-refused}
use Rattle.bp_run.specs.Desk.{run_said}
use Rattle.bp_run.specs.Portfolio.{hotel_head}
use Rattle.bp_run.proofs.commands.portfolio.write_hotel.Goals as goal

pub returns-in_err-write_head-clause-writes : goal.returns-in_err-write_head-clause-writes
returns-in_err-write_head-clause-writes g c =
    Writes-refused _ c.from_residual.ensures.0
    (AppendedPrefix-longer (hotel_head c.args.hotel c.args.ran.now) (run_said c.args.ran.now) c.in_err-write_head.ensures.writes)

pub returns-in_err-write-clause-writes : goal.returns-in_err-write-clause-writes
returns-in_err-write-clause-writes g c =
    Writes-refused _ c.from_residual-in_err-write.ensures.0
    (AppendedPrefix-append (hotel_head c.args.hotel c.args.ran.now) (run_said c.args.ran.now) c.in_ok-write_head.ensures.writes c.in_err-write.ensures.writes)

pub returns-clause-writes : goal.returns-clause-writes
returns-clause-writes g c =
    Appended-append (hotel_head c.args.hotel c.args.ran.now) (run_said c.args.ran.now) c.in_ok-write_head.ensures.writes c.in_ok-write.ensures.writes
