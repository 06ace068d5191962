use Rattle.bp_optimise.proofs.Stopping.{session_done}
use Rattle.bp_optimise.proofs.sessions.session.Goals as goal

pub returns : goal.returns
returns g c =
    let m = c.make_all-done in
    record {
      session = session_done c.args.lead c.args.commands.now c.args.pass m.new.pass c.leave.result m.result.0 m.result.1 m.ensures.acted m.ensures.made
          m.ensures.stop c.leave.ensures.called c.leave.ensures.calls;
    }
