use Rattle.std.proofs.Common.{◌≡◌, ◌+◌, ◌-◌, ◌<◌, refl, sym, ap, ◌∙◌, slice_index, length-set, arith}
use Rattle.bp_types.specs.declared.limits.TheConstants.{MOST_NODES}
use Rattle.bp_types.specs.Program.{load}
use Rattle.bp_cert.specs.Loads.{arriving}
use Rattle.bp_cert.proofs.LoadLemmas.{arrivals_fit, load_moves, first_load, loads_more}
use Rattle.bp_cert.proofs.loads.Loads.of.Goals as goal

pub loop-night-init : goal.loop-night-init
loop-night-init c = record {
  size = refl;
  made = λ n h. absurd (omega arith);
  moves = omega (arith, first_load c.args.instance.now c.args.sell.now c.nights-night-end.ensures.limits);
}

pub overflow_add-load : goal.overflow_add-load
overflow_add-load c =
    let limits = c.nights-night-end.ensures.limits in
    let in_range : c.loop-night.night < MOST_NODES = omega (arith, limits.nights) in
    omega (
      arith,
      c.of-moves.ensures.arrivals c.loop-night.night in_range,
      arrivals_fit c.args.instance.now c.args.sell.now c.loop-night.night c.loop-night.load limits c.requires.within c.loop-night.invariant.moves,
    )

pub loop-night-preserved : goal.loop-night-preserved
loop-night-preserved c =
    let p = c.args.instance.now in
    let sell = c.args.sell.now in
    let n = c.loop-night.night in
    let limits = c.nights-night-end.ensures.limits in
    let in_range : n < MOST_NODES = omega (arith, limits.nights) in
    let arrive = c.of-moves.ensures.arrivals n in_range in
    let depart = c.of-moves.ensures.departures n in_range in
    let now : (c.loop-night.load + slice_index c.of-moves.result.arrivals n) - slice_index c.of-moves.result.departures n ≡ load p sell n =
    omega (arith, arrive, depart, c.loop-night.invariant.moves) in
    record {
      size = length-set _ _ _ ∙ c.loop-night.invariant.size;
      made = loads_more c.loop-night.loads (load p sell) n _ c.loop-night.invariant.size in_range now c.loop-night.invariant.made;
      moves = load_moves p sell n limits ∙ ap (λ x. x + arriving p sell (n + 1)) (sym now);
    }
