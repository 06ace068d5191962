use Rattle.std.proofs.Common.{◌≡◌, ℕ, ◌+◌, ◌<◌, ◌≤◌, min, [], ap, sym, subst, take, drop, length, false, arith, rules}
use Rattle.std.specs.List.{All}
use Rattle.std.proofs.lemmas.List.{take_all, drop_all}
use Rattle.std.proofs.lemmas.List.Elements.{All-same}
use Rattle.bp_residual.specs.declared.hop.Hop.{Hop}
use Rattle.bp_residual.specs.Network.{Flow, Admits, step_of, steps_of}
use Rattle.bp_paths.specs.Paths.{least_room}
use Rattle.bp_paths.proofs.Answer.{least_room_more, least_room_at, least_room_fits}
use Rattle.bp_paths.proofs.searches.bottleneck.Goals as goal

pub loop-hop-init : goal.loop-hop-init
loop-hop-init c =
    let f : Flow = c.args.flow.now.flow in
    ((λ k d h. absurd (omega arith)), omega arith, omega arith, omega (arith, least_room_fits f (steps_of f.program c.args.path.now)))

pub loop-hop-preserved : goal.loop-hop-preserved
loop-hop-preserved c =
    let f : Flow = c.args.flow.now.flow in
    let i = c.loop-hop.hop-index in
    let d : Hop = record { arc = 0; forward = false } in
    let in_range : i < length c.args.path.now = omega arith in
    let P : ℕ → Type 0 = λ u. All (λ h. Admits f (step_of f.program h) u) (take (i + 1) c.args.path.now) × (1 ≤ u) in
    let is : c.min-units.result ≡ min c.loop-hop.units c.room.result = search rules in
    let more = subst P (sym is)
    (least_room_more f c.args.path.now i d c.loop-hop.units c.room.result in_range c.requires.admits c.loop-hop.invariant.1 c.loop-hop.invariant.0
    c.room.ensures) in
    let rest = least_room_at f c.args.path.now i d in_range in
    (more.0, more.1, omega (arith, is, c.loop-hop.invariant.2), omega (arith, rest, is, c.room.ensures, c.loop-hop.invariant.3))

pub returns-clause-admits : goal.returns-clause-admits
returns-clause-admits c =
    let P : Hop → Type 0 = λ h. Admits c.args.flow.now.flow (step_of c.args.flow.now.flow.program h) c.loop-hop.units in
    All-same P c.args.path.now (take c.loop-hop.hop-index c.args.path.now) (sym (take_all c.loop-hop.hop-index c.args.path.now c.loop-hop-test.false))
    c.loop-hop.invariant.0

pub returns-clause-least : goal.returns-clause-least
returns-clause-least c =
    let f : Flow = c.args.flow.now.flow in
    let none : least_room f (steps_of f.program (drop c.loop-hop.hop-index c.args.path.now)) ≡ least_room f [] =
    ap (λ hs. least_room f (steps_of f.program hs)) (drop_all c.loop-hop.hop-index c.args.path.now c.loop-hop-test.false) in
    omega (arith, none, c.loop-hop.invariant.2, c.loop-hop.invariant.3)
