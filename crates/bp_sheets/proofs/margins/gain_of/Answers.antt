use Rattle.std.proofs.Common.{rules, arith, ◌≡◌, ◌≤◌}
use Rattle.bp_types.specs.Displacement.{night_span}
use Rattle.bp_types.proofs.Fewer.{more_is_more}
use Rattle.bp_sheets.proofs.margins.gain_of.Goals as goal

pub returns : goal.returns
returns g c =
    let grows = more_is_more c.args.solver.now.flow.program (night_span c.args.night)
    1 c.args.value c.in_ok-more.more c.requires.optimum c.in_ok-more.ensures in
    let few = c.requires.rooms in
    record {
      in_range = c.requires.in_range;
      has_space = omega arith;
      before = c.args.value;
      after = c.in_ok-more.more;
      optimum = c.requires.optimum;
      optimum_with = c.in_ok-more.ensures;
      difference = let d = c.saturating_sub.ensures in omega arith;
    }
