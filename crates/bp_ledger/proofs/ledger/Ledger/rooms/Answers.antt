use Rattle.std.proofs.Common.{subst}
use Rattle.bp_ledger.specs.Inventory.{Inventory, IsInventory}
use Rattle.bp_ledger.proofs.LedgerLemmas.{seen_is_inventory}
use Rattle.bp_ledger.proofs.ledger.Ledger.rooms.Goals as goal

pub returns-clause-ledger : goal.returns-clause-ledger
returns-clause-ledger c =
    let P : Inventory → Type 0 = λ w. IsInventory w in
    subst P c.self.view_is (seen_is_inventory c.self.inside.levels c.self.inside.width c.self.inside.rooms.items c.self.inside.leasts.items
    c.self.inside.amounts.items c.self.invariant)
