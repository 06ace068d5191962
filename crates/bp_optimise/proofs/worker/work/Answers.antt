use Rattle.bp_optimise.proofs.Settling.{work_done}
use Rattle.bp_optimise.proofs.worker.work.Goals as goal

pub returns : goal.returns
returns g c =
    let m = c.make_rounds-memory in
    record {
      work = work_done c.args.sessions c.args.lead c.args.pass m.new.pass c.leave.result m.result m.ensures.acted m.ensures.no_command m.ensures.left
          m.ensures.settled c.leave.ensures.called c.leave.ensures.calls;
    }
