use Rattle.std.proofs.Common.{◌≡◌, ℕ, ◌+◌, ◌-◌, ◌*◌, ◌<◌, ◌≤◌, ◌∙◌, ap, sym, subst, refl, arith, length, slice_index, replicate, List}
use Rattle.std.specs.Vec.{with_items}
use Rattle.std.proofs.lemmas.List.{with_items_is}
use Rattle.bp_ledger.specs.Tree.{width, sold_in, IsInner, SameLeaves, IsTree}
use Rattle.bp_ledger.proofs.LedgerLemmas.{IsLaid, laid_out, new_sold, new_tree}
use Rattle.bp_ledger.proofs.ledger.Ledger.new.Goals as goal

pub invariant_of-result : goal.invariant_of-result
invariant_of-result c =
    let levels : ℕ = c.in_ok-levels.levels in
    let wide : ℕ = c.in_ok-levels.width in
    let rooms : List ℕ = c.in_ok-rooms.rooms.items in
    let shape = c.in_ok-levels.ensures in
    let from = shape.0 in
    let enough = shape.1 in
    let same_rooms : rooms ≡ c.args.rooms.now = c.in_ok-rooms.ensures.items in
    let nights : length rooms ≡ length c.args.rooms.now = ap (λ (l : List ℕ). length l) same_rooms in
    let each : length c.args.sold.now ≡ length rooms = omega arith in
    let was2 : c.deref_mut-2.result.now ≡ replicate (2 * wide) 0 = c.deref_mut-2.ensures.value ∙ c.in_ok-amounts.ensures.items_if_clones_equal (λ y e. e) in
    let sells = laid_out wide (2 * wide)
    c.args.sold.now c.deref_mut-2.result.now c.lay-2.new.numbers was2 c.lay-2.ensures.laid c.lay-2.ensures.before c.lay-2.ensures.past in
    let e2 : length c.lay-2.new.numbers ≡ c.in_ok-amounts.amounts.len = omega (arith, c.lay-2.ensures.len, c.deref_mut-2.ensures.len) in
    let i2 = with_items_is c.in_ok-amounts.amounts c.lay-2.new.numbers e2 in
    let was : c.deref_mut.result.now ≡ replicate (2 * wide) 0 = c.deref_mut.ensures.value ∙ c.in_ok-leasts.ensures.items_if_clones_equal (λ y e. e) in
    let laid = laid_out wide (2 * wide)
    c.deref.result.now c.deref_mut.result.now c.lay.new.numbers was c.lay.ensures.laid c.lay.ensures.before c.lay.ensures.past in
    let has : IsLaid wide rooms c.lay.new.numbers = let P : List ℕ → Type 0 = λ l. IsLaid wide l c.lay.new.numbers in subst P c.deref.ensures.value laid in
    let e0 : length c.lay.new.numbers ≡ c.in_ok-leasts.leasts.len = omega (arith, c.lay.ensures.len, c.deref_mut.ensures.len) in
    let i0 = with_items_is c.in_ok-leasts.leasts c.lay.new.numbers e0 in
    let before : c.deref_mut-3.result.now ≡ c.lay.new.numbers = c.deref_mut-3.ensures.value ∙ i0 in
    let same : length c.deref_mut-3.result.now ≡ length c.lay.new.numbers = ap (λ (l : List ℕ). length l) before in
    let len : length c.build.new.leasts ≡ length c.lay.new.numbers = c.build.ensures.len ∙ same in
    let e1 : length c.build.new.leasts ≡ c.in_ok-leasts.leasts.len = len ∙ e0 in
    let i1 = with_items_is (with_items c.in_ok-leasts.leasts c.lay.new.numbers) c.build.new.leasts e1 in
    let leaves : SameLeaves levels c.lay.new.numbers c.build.new.leasts = let P : List ℕ → Type 0 = λ l. SameLeaves levels l c.build.new.leasts in
    subst P before c.build.ensures.leaves in
    let inner : IsInner levels c.build.new.leasts c.lay-2.new.numbers 0 0 = let P : List ℕ → Type 0 = λ a. IsInner levels c.build.new.leasts a 0 0 in
    subst P (c.deref-2.ensures.value ∙ i2) c.build.ensures.inner in
    rw (i1, i2) (new_tree levels wide rooms c.args.sold.now c.lay.new.numbers c.lay-2.new.numbers from (omega arith) each sells c.build.new.leasts
    (omega (arith, c.in_ok-leasts.ensures.len)) (omega (arith, c.in_ok-amounts.ensures.len)) len has leaves inner
    (λ n. let P : List ℕ → Type 0 = λ l. slice_index l n < 18446744073709551616 in
    subst P (sym same_rooms) (let f = c.type_inv.rooms n in omega arith)) (λ n. let f = c.type_inv.sold n in omega arith)
    (λ n g. let P : List ℕ → Type 0 = λ l. slice_index c.args.sold.now n ≤ slice_index l n in subst P (sym same_rooms) (c.requires.within n (omega arith))))

pub returns : goal.returns
returns c =
    let levels : ℕ = c.in_ok-levels.levels in
    let wide : ℕ = c.in_ok-levels.width in
    let rooms : List ℕ = c.in_ok-rooms.rooms.items in
    let shape = c.in_ok-levels.ensures in
    let from = shape.0 in
    let enough = shape.1 in
    let same_rooms : rooms ≡ c.args.rooms.now = c.in_ok-rooms.ensures.items in
    let nights : length rooms ≡ length c.args.rooms.now = ap (λ (l : List ℕ). length l) same_rooms in
    let each : length c.args.sold.now ≡ length rooms = omega arith in
    let was2 : c.deref_mut-2.result.now ≡ replicate (2 * wide) 0 = c.deref_mut-2.ensures.value ∙ c.in_ok-amounts.ensures.items_if_clones_equal (λ y e. e) in
    let sells = laid_out wide (2 * wide)
    c.args.sold.now c.deref_mut-2.result.now c.lay-2.new.numbers was2 c.lay-2.ensures.laid c.lay-2.ensures.before c.lay-2.ensures.past in
    let e2 : length c.lay-2.new.numbers ≡ c.in_ok-amounts.amounts.len = omega (arith, c.lay-2.ensures.len, c.deref_mut-2.ensures.len) in
    let i2 = with_items_is c.in_ok-amounts.amounts c.lay-2.new.numbers e2 in
    let sold : sold_in levels c.lay-2.new.numbers (length rooms) ≡ c.args.sold.now =
    new_sold levels wide rooms c.args.sold.now rooms c.lay-2.new.numbers from (omega arith) each sells in
    rw (i2, sold, same_rooms) refl
