use Rattle.std.proofs.Common.{◌≡◌, ℕ, ◌+◌, ◌-◌, ◌<◌, ◌≤◌, ◌∙◌, ap, sym, subst, arith, length, slice_index, List}
use Rattle.std.proofs.lemmas.List.{with_items_is}
use Rattle.bp_types.specs.Spans.{IsSpanWithin}
use Rattle.bp_ledger.specs.Inventory.{Inventory, HasLeft, taken}
use Rattle.bp_ledger.specs.Tree.{IsOnLevel, on_way, IsTaken, SameLeaves}
use Rattle.bp_ledger.proofs.LedgerLemmas.{seen, low_on, high_on, take_fits, taken_tree, taken_seen}
use Rattle.bp_ledger.proofs.ledger.Ledger.take.Goals as goal

pub take_between-requires-clause-low : goal.take_between-requires-clause-low
take_between-requires-clause-low c =
    let levels : ℕ = c.self.inside.levels in
    let width : ℕ = c.self.inside.width in
    let rooms : List ℕ = c.self.inside.rooms.items in
    let leasts : List ℕ = c.self.inside.leasts.items in
    let amounts : List ℕ = c.self.inside.amounts.items in
    let v : Inventory = seen levels rooms amounts in
    let span : IsSpanWithin (length rooms) c.args.span = let P : Inventory → Type 0 = λ w. IsSpanWithin (length w.rooms) c.args.span in
    subst P (sym c.self.view_is) c.requires.span in
    low_on levels width rooms leasts amounts c.self.invariant c.args.span span

pub take_between-requires-clause-high : goal.take_between-requires-clause-high
take_between-requires-clause-high c =
    let levels : ℕ = c.self.inside.levels in
    let width : ℕ = c.self.inside.width in
    let rooms : List ℕ = c.self.inside.rooms.items in
    let leasts : List ℕ = c.self.inside.leasts.items in
    let amounts : List ℕ = c.self.inside.amounts.items in
    let v : Inventory = seen levels rooms amounts in
    let span : IsSpanWithin (length rooms) c.args.span = let P : Inventory → Type 0 = λ w. IsSpanWithin (length w.rooms) c.args.span in
    subst P (sym c.self.view_is) c.requires.span in
    high_on levels width rooms leasts amounts c.self.invariant c.args.span span

pub take_between-requires-clause-left : goal.take_between-requires-clause-left
take_between-requires-clause-left c =
    let levels : ℕ = c.self.inside.levels in
    let width : ℕ = c.self.inside.width in
    let rooms : List ℕ = c.self.inside.rooms.items in
    let leasts : List ℕ = c.self.inside.leasts.items in
    let amounts : List ℕ = c.self.inside.amounts.items in
    let v : Inventory = seen levels rooms amounts in
    let span : IsSpanWithin (length rooms) c.args.span = let P : Inventory → Type 0 = λ w. IsSpanWithin (length w.rooms) c.args.span in
    subst P (sym c.self.view_is) c.requires.span in
    let left : HasLeft v c.args.span c.args.units = let P : Inventory → Type 0 = λ w. HasLeft w c.args.span c.args.units in
    subst P (sym c.self.view_is) c.requires.left in
    rw c.deref_mut-2.ensures.value (take_fits levels width rooms leasts amounts c.self.invariant c.args.span c.args.units span left)

pub invariant_of-self : goal.invariant_of-self
invariant_of-self c =
    let levels : ℕ = c.self.inside.levels in
    let width : ℕ = c.self.inside.width in
    let rooms : List ℕ = c.self.inside.rooms.items in
    let leasts : List ℕ = c.self.inside.leasts.items in
    let amounts : List ℕ = c.self.inside.amounts.items in
    let v : Inventory = seen levels rooms amounts in
    let span : IsSpanWithin (length rooms) c.args.span = let P : Inventory → Type 0 = λ w. IsSpanWithin (length w.rooms) c.args.span in
    subst P (sym c.self.view_is) c.requires.span in
    let left : HasLeft v c.args.span c.args.units = let P : Inventory → Type 0 = λ w. HasLeft w c.args.span c.args.units in
    subst P (sym c.self.view_is) c.requires.left in
    let low : ℕ = width + c.args.span.from in
    let high : ℕ = width + c.args.span.to + 1 in
    let took : IsTaken levels low high c.args.units amounts c.take_between.new.amounts = let P : List ℕ →
    Type 0 = λ a. IsTaken levels low high c.args.units a c.take_between.new.amounts in subst P c.deref_mut-2.ensures.value c.take_between.ensures.taken in
    let same_leasts : length c.deref_mut.result.now ≡ length leasts = ap (λ (l : List ℕ). length l) c.deref_mut.ensures.value in
    let len : length c.take_between.new.leasts ≡ length leasts = c.take_between.ensures.len ∙ same_leasts in
    let e1 : length c.take_between.new.leasts ≡ c.self.inside.leasts.len = omega (arith, c.take_between.ensures.len, c.deref_mut.ensures.len) in
    let i1 = with_items_is c.self.inside.leasts c.take_between.new.leasts e1 in
    let e2 : length c.take_between.new.amounts ≡ c.self.inside.amounts.len = omega (arith, c.take_between.ensures.taken.len, c.deref_mut-2.ensures.len) in
    let i2 = with_items_is c.self.inside.amounts c.take_between.new.amounts e2 in
    let leaves : SameLeaves levels leasts c.take_between.new.leasts = let P : List ℕ → Type 0 = λ l. SameLeaves levels l c.take_between.new.leasts in
    subst P c.deref_mut.ensures.value c.take_between.ensures.leaves in
    rw (i1, i2) (taken_tree levels width rooms leasts amounts c.self.invariant c.take_between.new.leasts c.take_between.new.amounts c.args.span c.args.units
    span left took len leaves c.take_between.ensures.inner)

pub returns : goal.returns
returns c =
    let levels : ℕ = c.self.inside.levels in
    let width : ℕ = c.self.inside.width in
    let rooms : List ℕ = c.self.inside.rooms.items in
    let leasts : List ℕ = c.self.inside.leasts.items in
    let amounts : List ℕ = c.self.inside.amounts.items in
    let v : Inventory = seen levels rooms amounts in
    let span : IsSpanWithin (length rooms) c.args.span = let P : Inventory → Type 0 = λ w. IsSpanWithin (length w.rooms) c.args.span in
    subst P (sym c.self.view_is) c.requires.span in
    let low : ℕ = width + c.args.span.from in
    let high : ℕ = width + c.args.span.to + 1 in
    let took : IsTaken levels low high c.args.units amounts c.take_between.new.amounts = let P : List ℕ →
    Type 0 = λ a. IsTaken levels low high c.args.units a c.take_between.new.amounts in subst P c.deref_mut-2.ensures.value c.take_between.ensures.taken in
    let e2 : length c.take_between.new.amounts ≡ c.self.inside.amounts.len = omega (arith, c.take_between.ensures.taken.len, c.deref_mut-2.ensures.len) in
    let i2 = with_items_is c.self.inside.amounts c.take_between.new.amounts e2 in
    let P : Inventory → Type 0 = λ w. seen levels rooms c.take_between.new.amounts ≡ taken w c.args.span c.args.units in
    rw i2 (subst P c.self.view_is (taken_seen levels width rooms leasts amounts c.self.invariant c.take_between.new.amounts c.args.span c.args.units span took))
