use Rattle.std.proofs.Common.{◌≡◌, ℕ, ◌+◌, ◌-◌, ◌<◌, ◌≤◌, ◌∙◌, ap, sym, subst, arith, length, slice_index, set, length-set, List}
use Rattle.std.proofs.Math.Seq.{take-append_seam}
use Rattle.bp_ledger.specs.Inventory.{Inventory}
use Rattle.bp_ledger.specs.Tree.{width, on_way, leaf, IsInner, SameLeaves}
use Rattle.bp_ledger.proofs.LedgerLemmas.{sold_at, resized_tree}
use Rattle.bp_ledger.proofs.ledger.Ledger.resize.Goals as goal

pub invariant_of-self : goal.invariant_of-self
invariant_of-self c =
    let levels : ℕ = c.self.inside.levels in
    let rooms : List ℕ = c.self.inside.rooms.items in
    let leasts : List ℕ = c.self.inside.leasts.items in
    let amounts : List ℕ = c.self.inside.amounts.items in
    let night : c.args.night < length rooms = let P : Inventory → Type 0 = λ w. c.args.night < length w.rooms in subst P (sym c.self.view_is) c.requires in
    let sold : c.sold-sold.result ≡ on_way levels amounts (leaf levels c.args.night) =
    (let P : Inventory → Type 0 = λ w. c.sold-sold.result ≡ slice_index w.sold c.args.night in subst P (sym c.self.view_is) c.sold-sold.ensures.value) ∙
    sold_at levels amounts (length rooms) c.args.night night in
    let changed : List ℕ = set leasts (c.self.inside.width + c.args.night + 1) c.args.rooms in
    let was : c.deref_mut.result.now ≡ changed = c.deref_mut.ensures.value in
    let same : length c.deref_mut.result.now ≡ length changed = ap (λ (l : List ℕ). length l) was in
    let len : length c.bring_up.new.leasts ≡ length leasts = c.bring_up.ensures.len ∙ same ∙
    length-set leasts (c.self.inside.width + c.args.night + 1) c.args.rooms in
    let e : length c.bring_up.new.leasts ≡ c.self.inside.leasts.len = omega (arith, len) in
    let lowest : SameLeaves levels changed c.bring_up.new.leasts = let P : List ℕ → Type 0 = λ l. SameLeaves levels l c.bring_up.new.leasts in
    subst P was c.bring_up.ensures.leaves in
    let inner : IsInner levels c.bring_up.new.leasts amounts 0 0 = let P : List ℕ → Type 0 = λ a. IsInner levels c.bring_up.new.leasts a 0 0 in
    subst P c.deref.ensures.value c.bring_up.ensures.inner in
    rw (← e, take-append_seam)
    (resized_tree levels c.self.inside.width rooms leasts amounts c.self.invariant c.bring_up.new.leasts c.args.night c.args.rooms night (omega arith)
    (omega arith) len lowest inner)
