use Rattle.std.proofs.Common.{◌≡◌, ◌≤◌, min, take, drop}
use Rattle.std.specs.List.{All}
use Rattle.bp_residual.specs.Network.{Admits, no_limit, step_of, steps_of}
use Rattle.bp_paths.specs.Paths.{least_room}
use Rattle.bp_paths.proofs.searches.bottleneck.Given as goal

abbrev pub invariant-loop-hop : goal.invariant-loop-hop
invariant-loop-hop l =
    All (λ h. Admits l.flow.flow (step_of l.flow.flow.program h) l.units) (take l.hop-index l.path)
    × (1 ≤ l.units)
    × (l.units ≤ no_limit)
    × (min l.units (least_room l.flow.flow (steps_of l.flow.flow.program (drop l.hop-index l.path))) ≡
    least_room l.flow.flow (steps_of l.flow.flow.program l.path))
