use Rattle.std.proofs.Common.{rules, ap}
use Rattle.bp_optimise.specs.Following.{HasLooked}
use Rattle.bp_optimise.specs.Rounds.{IsRound}
use Rattle.bp_optimise.specs.Acts.{commands_in}
use Rattle.bp_optimise.proofs.Doing.{look_acts}
use Rattle.bp_optimise.proofs.Settling.{round_acts}
use Rattle.bp_optimise.proofs.Stopping.{attempt_by_round}
use Rattle.bp_optimise.proofs.sessions.publish_again.Goals as goal

pub returns-in-Ok : goal.returns-in-Ok
returns-in-Ok g c =
    let r : IsRound c.args.pass.now c.round.new.pass c.round.new.self.position c.args.lead c.in-Ok.round = search rules in
    record {
      goes_on = record {
        acted = (round_acts c.args.lead c.round.new.self.position c.args.pass.now c.round.new.pass c.in-Ok.round r).0;
        goes =
            c.round.ensures.goes;
      };
      attempt = λ command. attempt_by_round c.round.new.self.position c.args.lead c.args.pass.now c.round.new.pass c.in-Ok.round c.found_none_left.result
          command r c.found_none_left.ensures;
    }

pub returns-in-Err : goal.returns-in-Err
returns-in-Err g c =
    let l : HasLooked c.args.pass.now c.round.new.pass = search rules in
    record {
      goes_on = record { acted = look_acts c.args.lead c.args.pass.now c.round.new.pass l; goes = c.round.ensures.goes };
      attempt = λ command. ap commands_in l.calls;
    }
