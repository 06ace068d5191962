use Rattle.std.proofs.Common.{◌≡◌, ℕ, ◌+◌, ◌<◌, ◌∙◌, false, sym, subst, List, drop, length, slice_index, arith, rules}
use Rattle.std.proofs.lemmas.List.{get_or_default, with_items_is}
use Rattle.std.specs.Vec.{with_items}
use Rattle.bp_residual.specs.declared.hop.Hop.{Hop}
use Rattle.bp_paths.specs.Labels.{IsTracedPath}
use Rattle.bp_paths.specs.Paths.{AreDistances, AreDistancesBelow, IsShortestPath, far}
use Rattle.bp_paths.proofs.Answer.{are_distances, distances_below, is_shortest}
use Rattle.bp_paths.proofs.Distances.{is_closed}
use Rattle.bp_paths.proofs.searches.search.Goals as goal

pub returns-then-index-clause-found : goal.returns-then-index-clause-found
returns-then-index-clause-found g c =
    let kept = c.close_all.new.self.kept.items in
    let to_in : c.args.to < length kept = omega (arith, c.close_all.ensures.labels.2.kept_each, c.requires.to) in
    let read = c.index.ensures ∙ get_or_default kept c.args.to c.index.result.now 0 to_in in
    let P : ℕ → Type 0 = λ v. AreDistances c.args.flow.now v kept in
    let d : AreDistances c.args.flow.now c.args.from kept =
    subst P (c.close_all.ensures.from ∙
    c.begin.ensures.from) (are_distances c.args.flow.now _ _ _ _ _ c.nights-nights.ensures.priced.limits c.close_all.ensures.labels
    c.close_all.ensures.done) in
    ((λ path is. omega (arith, d.unreached c.args.to path c.requires.to is, read, c.if-index.true)), d)

pub path_to-start-requires-clause-near : goal.path_to-start-requires-clause-near
path_to-start-requires-clause-near g c =
    let kept = c.close_all.new.self.kept.items in
    let to_in : c.args.to < length kept = omega (arith, c.close_all.ensures.labels.2.kept_each, c.requires.to) in
    let read = c.index.ensures ∙ get_or_default kept c.args.to c.index.result.now 0 to_in in
    omega (arith, read, c.if-index.false, c.close_all.ensures.labels.2.fits c.args.to c.requires.to)

pub path_to-start-requires-clause-closed : goal.path_to-start-requires-clause-closed
path_to-start-requires-clause-closed g c =
    let kept = c.close_all.new.self.kept.items in
    let to_in : c.args.to < length kept = omega (arith, c.close_all.ensures.labels.2.kept_each, c.requires.to) in
    let read = c.index.ensures ∙ get_or_default kept c.args.to c.index.result.now 0 to_in in
    is_closed false c.args.flow.now _ _ kept _ _ c.close_all.ensures.labels c.close_all.ensures.done c.args.to c.requires.to
    (omega (arith, read, c.if-index.false, c.close_all.ensures.labels.2.fits c.args.to c.requires.to))

pub returns-clause-found : goal.returns-clause-found
returns-clause-found g c =
    let kept = c.close_all.new.self.kept.items in
    let rank = c.close_all.new.self.rank.items in
    let to_in : c.args.to < length kept = omega (arith, c.close_all.ensures.labels.2.kept_each, c.requires.to) in
    let read = c.index.ensures ∙ get_or_default kept c.args.to c.index.result.now 0 to_in in
    let near : slice_index kept c.args.to < far = omega (arith, read, c.if-index.false, c.close_all.ensures.labels.2.fits c.args.to c.requires.to) in
    let path : List Hop = drop c.path_to-start.result.0 c.path_to-start.new.slots in
    let from_is = c.close_all.ensures.from ∙ c.begin.ensures.from in
    let P : ℕ → Type 0 = λ v. AreDistances c.args.flow.now v kept in
    let Q : ℕ → Type 0 = λ v. IsTracedPath c.args.flow.now kept rank v c.args.to path in
    let every : AreDistances c.args.flow.now c.args.from kept =
    subst P from_is (are_distances c.args.flow.now _ _ _ _ _ c.nights-nights.ensures.priced.limits c.close_all.ensures.labels
    c.close_all.ensures.done) in
    let d : AreDistancesBelow c.args.flow.now c.args.from (slice_index kept c.args.to) kept =
    distances_below c.args.flow.now c.args.from (slice_index kept c.args.to) kept every in
    let slots_len : length c.path_to-start.new.slots ≡ c.scratch.inside.slots.len = search rules in
    let items : (with_items c.scratch.inside.slots c.path_to-start.new.slots).items ≡ c.path_to-start.new.slots =
    with_items_is c.scratch.inside.slots c.path_to-start.new.slots slots_len in
    let served : ℕ = c.one_more-scratch-inside.result in
    let R : List Hop → Type 0 =
    λ hs. IsShortestPath c.args.flow.now c.args.from c.args.to c.path_to-start.result.1
    (record { distances = kept; path = drop c.path_to-start.result.0 hs; served = served }) in
    let found = is_shortest c.args.flow.now c.args.from c.args.to c.path_to-start.result.1 served kept rank path near d.start d.grows
    (subst Q from_is c.path_to-start.ensures.path) c.path_to-start.ensures.admits c.path_to-start.ensures.some c.path_to-start.ensures.least in
    (subst R (sym items) found, distances_below c.args.flow.now c.args.from (slice_index kept c.args.to + 1) kept every)
