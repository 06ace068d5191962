use Rattle.std.proofs.Common.{◌≡◌, ℕ, ◌+◌, ◌-◌, ◌<◌, ◌≤◌, ◌∙◌, sym, subst, length, slice_index, List}
use Rattle.bp_ledger.specs.Inventory.{Inventory, IsInventory}
use Rattle.bp_ledger.specs.Tree.{on_way}
use Rattle.bp_ledger.proofs.LedgerLemmas.{seen_is_inventory, sold_on}
use Rattle.bp_ledger.proofs.ledger.Ledger.sold.Goals as goal

pub returns-clause-value : goal.returns-clause-value
returns-clause-value c =
    let night : c.args.night < length c.self.inside.rooms.items = let P : Inventory → Type 0 = λ w. c.args.night < length w.rooms in
    subst P (sym c.self.view_is) c.requires in
    let P : Inventory → Type 0 = λ w. c.way.result ≡ slice_index w.sold c.args.night in
    let R : List ℕ → Type 0 = λ a. c.way.result ≡ on_way c.self.inside.levels a (c.self.inside.width + c.args.night + 1) in
    let at = sold_on c.self.inside.levels c.self.inside.width c.self.inside.rooms.items c.self.inside.leasts.items c.self.inside.amounts.items
    c.self.invariant c.args.night night in
    subst P c.self.view_is (subst R c.deref.ensures.value c.way.ensures ∙ at)

pub returns-clause-ledger : goal.returns-clause-ledger
returns-clause-ledger c =
    let P : Inventory → Type 0 = λ w. IsInventory w in
    subst P c.self.view_is (seen_is_inventory c.self.inside.levels c.self.inside.width c.self.inside.rooms.items c.self.inside.leasts.items
    c.self.inside.amounts.items c.self.invariant)
