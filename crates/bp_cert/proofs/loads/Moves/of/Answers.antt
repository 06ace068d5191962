use Rattle.std.proofs.Common.{ℕ, ◌<◌, ◌==◌, length, slice_index, refl, ap, arith}
use Rattle.std.proofs.lemmas.List.{get_or-replicate}
use Rattle.bp_types.specs.declared.limits.TheConstants.{MOST_NODES}
use Rattle.bp_types.specs.declared.stay.Stay.{Stay}
use Rattle.bp_types.specs.Program.{stay_at, no_stay}
use Rattle.bp_cert.proofs.LoadLemmas.{one_more_fits}
use Rattle.bp_cert.proofs.loads.Moves.of.Goals as goal

pub loop-stay-init : goal.loop-stay-init
loop-stay-init c = record {
  places = (refl, refl);
  arrivals = λ n h. get_or-replicate MOST_NODES n 0 0 h;
  departures = λ n h. get_or-replicate MOST_NODES n 0 0 h;
}

pub overflow_add-arrivals : goal.overflow_add-arrivals
overflow_add-arrivals c =
    let limits = c.stays-stay-end.ensures.limits in
    let here : c.loop-stay.stay < length c.args.instance.now.stays = omega arith in
    let span = limits.spans c.loop-stay.stay no_stay here in
    let k : ℕ = c.stay.result.span.from in
    let in_range : k < MOST_NODES = omega (arith, ap (λ (s : Stay). s.span.from) c.stay.ensures, span.0, span.1, limits.nights) in
    omega (
      arith,
      one_more_fits c.args.instance.now c.args.sell.now (λ i. (stay_at c.args.instance.now i).span.from == k) c.loop-stay.stay
          (slice_index c.loop-stay.arrivals k) limits here c.requires.within (c.loop-stay.invariant.arrivals k in_range),
    )

pub overflow_add-departures : goal.overflow_add-departures
overflow_add-departures c =
    let limits = c.stays-stay-end.ensures.limits in
    let here : c.loop-stay.stay < length c.args.instance.now.stays = omega arith in
    let span = limits.spans c.loop-stay.stay no_stay here in
    let k : ℕ = c.stay.result.span.to in
    let in_range : k < MOST_NODES = omega (arith, ap (λ (s : Stay). s.span.to) c.stay.ensures, span.1, limits.nights) in
    omega (
      arith,
      one_more_fits c.args.instance.now c.args.sell.now (λ i. (stay_at c.args.instance.now i).span.to == k) c.loop-stay.stay
          (slice_index c.loop-stay.departures k) limits here c.requires.within (c.loop-stay.invariant.departures k in_range),
    )
