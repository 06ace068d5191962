use Rattle.std.proofs.Common.{rules, ap, ◌∙◌}
use Rattle.bp_optimise.specs.Following.{HasLooked}
use Rattle.bp_optimise.specs.Rounds.{IsRound}
use Rattle.bp_optimise.specs.Acts.{commands_in}
use Rattle.bp_optimise.proofs.Leading.{looked}
use Rattle.bp_optimise.proofs.Following.{goes_later}
use Rattle.bp_optimise.proofs.Doing.{look_acts, acts_again}
use Rattle.bp_optimise.proofs.Settling.{round_acts, step_by_round}
use Rattle.bp_optimise.proofs.worker.make_step.Goals as goal

pub returns-then-not-superseded-clause-goes_on : goal.returns-then-not-superseded-clause-goes_on
returns-then-not-superseded-clause-goes_on g c =
    let old = c.args.pass.now in
    let mid = c.have_left-left.new.pass in
    let l : HasLooked old mid = looked old mid c.have_left-left.ensures.read in
    record {
      acted = look_acts c.args.lead old mid l;
      goes =
          goes_later old.house mid.house old.seen mid.seen c.args.optimiser.now l.house l.begins c.requires.goes;
    }

pub returns-in-Ok : goal.returns-in-Ok
returns-in-Ok g c =
    let old = c.args.pass.now in
    let mid = c.have_left-left.new.pass in
    let new = c.round.new.pass in
    let position = c.round.new.self.position in
    let l : HasLooked old mid = looked old mid c.have_left-left.ensures.read in
    let r : IsRound mid new position c.args.lead c.in-Ok.round = search rules in
    let acted = round_acts c.args.lead position mid new c.in-Ok.round r in
    record {
      goes_on = record { acted = acts_again c.args.lead old mid new (look_acts c.args.lead old mid l) acted.0; goes = c.round.ensures.goes };
      no_command = acted.1 ∙ ap commands_in l.calls;
      step = step_by_round c.args.sessions c.args.lead position c.args.superseded c.is_superseded.result old mid new c.in-Ok.round
          c.have_left-left.ensures.read r c.is_superseded.ensures;
    }

pub returns-in-Err : goal.returns-in-Err
returns-in-Err g c =
    let old = c.args.pass.now in
    let mid = c.have_left-left.new.pass in
    let new = c.round.new.pass in
    let l : HasLooked old mid = looked old mid c.have_left-left.ensures.read in
    let m : HasLooked mid new = search rules in
    record {
      goes_on = record {
        acted = acts_again c.args.lead old mid new (look_acts c.args.lead old mid l) (look_acts c.args.lead mid new m);
        goes =
            c.round.ensures.goes;
      };
      no_command = ap commands_in m.calls ∙ ap commands_in l.calls;
      step = tt;
    }
