use Rattle.std.proofs.Common.{◌≡◌, ◌+◌, ◌<◌, ◌≤◌, ap, arith, sym, ◌∙◌, rules, List, drop, get_or, slice_index, length, subst}
use Rattle.std.proofs.lemmas.List.{drop_more, get_or_default}
use Rattle.bp_residual.specs.declared.hop.Hop.{Hop}
use Rattle.bp_residual.specs.Index.{no_hop}
use Rattle.bp_residual.specs.Network.{Priced, Step, Admits, step_of}
use Rattle.bp_paths.specs.Paths.{far}
use Rattle.bp_paths.specs.Labels.{AreLabels, far_end, cost}
use Rattle.bp_paths.proofs.Hops.{ends_of, taken_is}
use Rattle.bp_paths.proofs.Relax.{labels_skip, labels_set}
use Rattle.bp_paths.proofs.labels.Labels.relax_hop.Goals as goal

pub returns-then-reach-index-clause-labels : goal.returns-then-reach-index-clause-labels
returns-then-reach-index-clause-labels c =
    let p : Priced = c.args.flow.now in
    let hops : List Hop = c.args.hops.now in
    let h : Hop = c.turned-hop.result in
    let way = taken_is c.args.backward p.flow c.args.x hops c.args.place h c.requires.priced.limits c.requires.hops c.requires.place c.turned-hop.ensures in
    let L : List Hop → Type 0 =
    λ hs. AreLabels c.args.backward p c.args.self.now.from c.args.self.now.count c.args.x c.args.at hs c.args.self.now.kept.items
    c.args.self.now.rank.items c.args.self.now.via.items in
    let labels = subst L (drop_more hops c.args.place no_hop c.requires.place) c.requires.labels in
    let y = c.far_end-head.result in
    let over = c.label_over-reach.ensures in
    let fits : c.index.result.now ≤ far = search rules in
    let near : c.label_over-reach.result < far = omega (arith, fits, c.if-reach-index.true) in
    let room = over.admits near in
    let paid = over.adds room in
    let y_in : y < length c.args.self.now.kept.items =
    omega (
      arith,
      (ends_of c.args.backward p.flow (step_of p.flow.program h) 1 c.requires.priced.limits room).1,
      c.far_end-head.ensures,
      c.requires.labels.kept_each,
    ) in
    let read : c.index.result.now ≡ slice_index c.args.self.now.kept.items y = c.index.ensures ∙
    get_or_default c.args.self.now.kept.items y c.index.result.now 0 y_in in
    labels_set c.args.backward p _ _ c.args.x c.args.at (get_or hops c.args.place no_hop) (drop (c.args.place + 1) hops)
    _ _ _ c.requires.priced labels h y _ way.0 room way.1 (sym c.far_end-head.ensures) way.3 paid.0 paid.1 (omega (arith, c.if-reach-index.true, read))
    (omega (arith, fits, read))

pub returns-else-reach-index-clause-labels : goal.returns-else-reach-index-clause-labels
returns-else-reach-index-clause-labels c =
    let p : Priced = c.args.flow.now in
    let hops : List Hop = c.args.hops.now in
    let h : Hop = c.turned-hop.result in
    let way = taken_is c.args.backward p.flow c.args.x hops c.args.place h c.requires.priced.limits c.requires.hops c.requires.place c.turned-hop.ensures in
    let L : List Hop → Type 0 =
    λ hs. AreLabels c.args.backward p c.args.self.now.from c.args.self.now.count c.args.x c.args.at hs c.args.self.now.kept.items
    c.args.self.now.rank.items c.args.self.now.via.items in
    let labels = subst L (drop_more hops c.args.place no_hop c.requires.place) c.requires.labels in
    let y = c.far_end-head.result in
    labels_skip c.args.backward p _ _ c.args.x c.args.at (get_or hops c.args.place no_hop) (drop (c.args.place + 1) hops) _ _ _ labels (λ s a t e.
    let is = way.3 s a e t in
    let P : Step → Type 0 = λ z. Admits p.flow z 1 in
    let room = subst P is a in
    let paid = c.label_over-reach.ensures.adds room in
    let y_in : y < length c.args.self.now.kept.items =
    omega (
      arith,
      (ends_of c.args.backward p.flow (step_of p.flow.program h) 1 c.requires.priced.limits room).1,
      c.far_end-head.ensures,
      c.requires.labels.kept_each,
    ) in
    let read : c.index.result.now ≡ slice_index c.args.self.now.kept.items y = c.index.ensures ∙
    get_or_default c.args.self.now.kept.items y c.index.result.now 0 y_in in
    let same_cost = ap (cost p) is in
    let same_head = ap (λ (z : Step). slice_index c.args.self.now.kept.items (far_end c.args.backward p.flow.program z)) is in
    let same_tail = ap (λ v. slice_index c.args.self.now.kept.items v) t in
    let to_y = ap (λ v. slice_index c.args.self.now.kept.items v) (sym c.far_end-head.ensures) in (
      omega (arith, same_cost, same_head, same_tail, to_y, read, paid.0, c.requires.labels.x_kept, c.if-reach-index.false),
      omega (arith, same_head, to_y, read, paid.0, paid.1, c.requires.labels.at_small, c.if-reach-index.false, c.requires.few),
    ))
