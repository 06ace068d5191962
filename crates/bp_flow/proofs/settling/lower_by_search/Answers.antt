use Rattle.std.proofs.Common.{◌≡◌, ℕ, ◌+◌, List, length, slice_index, arith, rules}
use Rattle.bp_residual.specs.Network.{Priced}
use Rattle.bp_paths.specs.Paths.{AreDistancesTo}
use Rattle.bp_flow.specs.Settled.{AreFalls}
use Rattle.bp_flow.proofs.SettleStep.{settled_by_lift}
use Rattle.bp_flow.proofs.settling.lower_by_search.Goals as goal

pub returns-clause-settled : goal.returns-clause-settled
returns-clause-settled g c =
    let p : Priced = c.args.flow.now in
    let distances : List ℕ = c.search_to.new.scratch.distances in
    let by : List ℕ = c.fill_falls.new.by in
    let to : AreDistancesTo p (length p.flow.program.rooms) distances = search rules in
    let each : length by ≡ length p.flow.program.rooms + 1 = search rules in
    let top : c.from-top.result ≡ slice_index p.potentials 0 = search rules in
    let fills : AreFalls distances (slice_index p.potentials 0) by (length p.flow.program.rooms + 1) =
    λ v h. omega (arith, c.fill_falls.ensures v (omega (arith, each, h)), top) in
    (settled_by_lift p c.lift.new.self distances by c.nights-nights.ensures.priced c.requires.slack c.requires.balanced to c.lift.ensures.flow fills
    c.lift.ensures.potentials).0

pub returns-clause-slack : goal.returns-clause-slack
returns-clause-slack g c =
    let p : Priced = c.args.flow.now in
    let distances : List ℕ = c.search_to.new.scratch.distances in
    let by : List ℕ = c.fill_falls.new.by in
    let to : AreDistancesTo p (length p.flow.program.rooms) distances = search rules in
    let each : length by ≡ length p.flow.program.rooms + 1 = search rules in
    let top : c.from-top.result ≡ slice_index p.potentials 0 = search rules in
    let fills : AreFalls distances (slice_index p.potentials 0) by (length p.flow.program.rooms + 1) =
    λ v h. omega (arith, c.fill_falls.ensures v (omega (arith, each, h)), top) in
    (settled_by_lift p c.lift.new.self distances by c.nights-nights.ensures.priced c.requires.slack c.requires.balanced to c.lift.ensures.flow fills
    c.lift.ensures.potentials).1
