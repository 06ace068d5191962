use Rattle.std.proofs.Common.{rules, arith, ◌≡◌, ◌≤◌, ◌<◌, ℕ, subst, slice_index}
use Rattle.bp_types.specs.Displacement.{night_span}
use Rattle.bp_types.proofs.Fewer.{fewer_is_less}
use Rattle.bp_sheets.proofs.margins.loss_of.Goals as goal

pub returns : goal.returns
returns g c =
    let rooms = c.args.solver.now.flow.program.rooms in
    let falls = fewer_is_less c.args.solver.now.flow.program (night_span c.args.night)
    1 c.args.value c.in_ok-fewer.fewer c.requires.optimum c.in_ok-fewer.ensures in
    let some : 1 ≤ slice_index rooms c.args.night = omega arith in
    record {
      in_range = c.requires.in_range;
      displacement = record {
        in_range = (omega arith, let h = c.requires.in_range in omega arith);
        has_units = λ k low high. let here : c.args.night ≡ k = omega arith in subst (λ (n : ℕ). 1 ≤ slice_index rooms n) here some;
        before = c.args.value;
        after = c.in_ok-fewer.fewer;
        optimum = c.requires.optimum;
        optimum_without = c.in_ok-fewer.ensures;
        difference = let d = c.saturating_sub.ensures in omega arith;
      };
    }
