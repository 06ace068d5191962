use Rattle.std.proofs.Common.{◌≡◌, ℕ, ◌+◌, ◌-◌, List, [], length, replicate, ap, sym, ◌∙◌, subst, rules}
use Rattle.std.specs.Vec.{with_items}
use Rattle.std.proofs.lemmas.List.{with_items_is}
use Rattle.bp_types.specs.declared.stay.Stay.{Stay}
use Rattle.bp_types.specs.Program.{Program}
use Rattle.bp_residual.specs.Network.{IsPriced, IsEmptyFlow, AreLevel, greatest_rate}
use Rattle.bp_residual.proofs.Empty.{empty_priced, empty_flow}
use Rattle.bp_residual.proofs.flow.Flow.empty.Goals as goal

pub invariant_of-result : goal.invariant_of-result
invariant_of-result c =
    let p : Program = c.clear_rooms.new.instance in
    let z : ℕ = 0 in
    let pots : List ℕ = c.level_potentials.new.potentials in
    let each : length pots ≡ length p.rooms + 1 = search rules in
    let small : length pots ≡ c.in_ok-potentials.potentials.len = search rules in
    let items : (with_items c.in_ok-potentials.potentials pots).items ≡ pots = with_items_is c.in_ok-potentials.potentials pots small in
    let nights : length c.deref_mut.result.now - 1 ≡ length p.rooms = search rules in
    let L : ℕ → Type 0 = λ n. AreLevel n c.greatest_rate-price.result pots in
    let P : List ℕ → Type 0 =
    λ xs. IsPriced (record { flow = record { program = p; sell = c.in_ok-sell.sell.items; spare = c.in_ok-spare.spare.items }; potentials = xs }) in (
      subst P (sym items) (empty_priced p c.in_ok-sell.sell.items c.in_ok-spare.spare.items pots c.greatest_rate-price.result c.clear_rooms.ensures.limits
          (c.in_ok-sell.ensures.items_if_clones_equal (λ y e. e) ∙ ap (λ n. replicate n z) c.stays.ensures.value)
          (c.in_ok-spare.ensures.items_if_clones_equal (λ y e. e) ∙ ap (λ n. replicate n z) c.nights-nights.ensures.value)
          each (subst L nights c.level_potentials.ensures) c.greatest_rate-price.ensures.limit),
      c.in_ok-network.ensures,
    )

pub returns : goal.returns
returns c =
    let p : Program = c.clear_rooms.new.instance in
    let z : ℕ = 0 in
    let pots : List ℕ = c.level_potentials.new.potentials in
    let small : length pots ≡ c.in_ok-potentials.potentials.len = search rules in
    let items : (with_items c.in_ok-potentials.potentials pots).items ≡ pots = with_items_is c.in_ok-potentials.potentials pots small in
    let nights : length c.deref_mut.result.now - 1 ≡ length p.rooms = search rules in
    let L : ℕ → Type 0 = λ n. AreLevel n c.greatest_rate-price.result pots in
    let P : List ℕ → Type 0 =
    λ xs. IsEmptyFlow (record { flow = record { program = p; sell = c.in_ok-sell.sell.items; spare = c.in_ok-spare.spare.items }; potentials = xs })
    c.greatest_rate-price.result in
    let rate : c.greatest_rate-price.result ≡ greatest_rate c.args.instance = c.greatest_rate-price.ensures.greatest ∙
    ap (λ (ss : List Stay). greatest_rate (record { rooms = []; stays = ss })) c.clear_rooms.ensures.stays in
    let R : ℕ → Type 0 = λ price. IsEmptyFlow (record {
      flow = record { program = p; sell = c.in_ok-sell.sell.items; spare = c.in_ok-spare.spare.items };
      potentials = (with_items c.in_ok-potentials.potentials pots).items;
    }) price in
    record {
      empty = subst R rate (subst P (sym items)
          (empty_flow p c.in_ok-sell.sell.items c.in_ok-spare.spare.items pots c.greatest_rate-price.result c.clear_rooms.ensures.rooms
          (c.in_ok-sell.ensures.items_if_clones_equal (λ y e. e) ∙ ap (λ n. replicate n z) c.stays.ensures.value)
          (c.in_ok-spare.ensures.items_if_clones_equal (λ y e. e) ∙ ap (λ n. replicate n z) c.nights-nights.ensures.value)
          (subst L nights c.level_potentials.ensures) c.greatest_rate-price.ensures.dear));
      stays = c.clear_rooms.ensures.stays;
      nights = c.clear_rooms.ensures.each;
    }
