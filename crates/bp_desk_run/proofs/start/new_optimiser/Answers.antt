use Rattle.std.proofs.Common.{rules, ◌≡◌, ap}
use Rattle.bp_residual.specs.Network.{Priced}
use Rattle.bp_types.specs.Program.{Program}
use Rattle.bp_desk_run.proofs.Starting.{ok_weaker, starts_from}
use Rattle.bp_desk_run.proofs.start.new_optimiser.Goals as goal

pub returns : goal.returns
returns c =
    let same : c.in_ok-solver.solver.flow.program ≡ c.args.solver.now.flow.program = ap (λ (p : Priced). p.flow.program) c.in_ok-solver.ensures.same in
    ok_weaker _ _ c.new.result (λ o is. starts_from c.args.solver.now.flow.program c.in_ok-solver.solver o same is) c.new.ensures
