use Rattle.std.proofs.Common.{◌≡◌, ◌∙◌, ◌<◌, ◌++◌, [], List, ap, sym, arith, length, map, length-append}
use Rattle.std.proofs.lemmas.List.{get_or-map, length-map}
use Rattle.std.specs.Prelude.{slice_index_or}
use Rattle.bp_types.specs.declared.change.Change.{Change}
use Rattle.bp_core.specs.Deltas.{delta_list}
use Rattle.bp_core.specs.Log.{LogView, stored_between}
use Rattle.bp_core.proofs.StoredBetween.{stored_between-more}
use Rattle.bp_core.proofs.log.Log.fill.Goals as goal

pub returns-then-len-capacity-clause-full : goal.returns-then-len-capacity-clause-full
returns-then-len-capacity-clause-full c = λ more.
    let ds = c.self.inside.deltas.items in
    let each : length (map delta_list ds) ≡ length ds = length-map _ _ in
    let within : c.loop-place.place < length ds =
    omega (arith, each, c.self.invariant.0.fed, ap (λ (l : LogView). length l.lines) c.self.view_is, c.requires.within, c.loop-place-test.true) in
    let read : slice_index_or (map delta_list ds) c.loop-place.place [] ≡ delta_list c.index-deltas.result.now =
    get_or-map delta_list ds c.loop-place.place c.index-deltas.result.now [] within ∙ ap delta_list (sym c.index-deltas.ensures) in
    let here : slice_index_or c.args.self.now.deltas c.loop-place.place [] ≡ delta_list c.index-deltas.result.now =
    ap (λ (l : LogView). slice_index_or l.deltas c.loop-place.place []) (sym c.self.view_is) ∙ read in
    let next = stored_between-more c.args.self.now.deltas c.args.from c.loop-place.place (omega arith) in
    let sizes = ap (λ (l : List Change). length l) (next ∙ ap (λ l. stored_between c.args.self.now.deltas c.args.from c.loop-place.place ++ l) here) ∙
    length-append (stored_between c.args.self.now.deltas c.args.from c.loop-place.place) (delta_list c.index-deltas.result.now) in
    let filled = ap (λ (l : List Change). length l) c.loop-place.invariant.items in
    omega (
      arith,
      sizes,
      filled,
      c.loop-place.into.ok.0,
      c.loop-place.invariant.capacity,
      c.if-len-capacity.true,
      c.capacity.ensures,
      c.len.ensures,
      c.len-in-loop-place.ensures,
    )

pub loop-place-preserved : goal.loop-place-preserved
loop-place-preserved c =
    let ds = c.self.inside.deltas.items in
    let each : length (map delta_list ds) ≡ length ds = length-map _ _ in
    let within : c.loop-place.place < length ds =
    omega (arith, each, c.self.invariant.0.fed, ap (λ (l : LogView). length l.lines) c.self.view_is, c.requires.within, c.loop-place-test.true) in
    let read : slice_index_or (map delta_list ds) c.loop-place.place [] ≡ delta_list c.index-deltas.result.now =
    get_or-map delta_list ds c.loop-place.place c.index-deltas.result.now [] within ∙ ap delta_list (sym c.index-deltas.ensures) in
    let here : slice_index_or c.args.self.now.deltas c.loop-place.place [] ≡ delta_list c.index-deltas.result.now =
    ap (λ (l : LogView). slice_index_or l.deltas c.loop-place.place []) (sym c.self.view_is) ∙ read in
    let next = stored_between-more c.args.self.now.deltas c.args.from c.loop-place.place (omega arith) in
    let kept = stored_between c.args.self.now.deltas c.args.from c.loop-place.place in
    record {
      items = c.append_to.ensures.items ∙ ap (λ l. l ++ delta_list c.index-deltas.result.now) c.loop-place.invariant.items ∙ ap (λ l. kept ++ l) (sym here) ∙
          sym next;
      capacity = c.append_to.ensures.capacity ∙ c.loop-place.invariant.capacity;
    }
