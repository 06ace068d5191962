use Rattle.std.proofs.Common.{◌≡◌, ◌∙◌, subst, ap}
use Rattle.bp_types.specs.House.{Inn, IsHouse}
use Rattle.bp_types.proofs.HouseLemmas.{opening_parts_are_within}
use Rattle.bp_types.proofs.house.House.instance.Goals as goal

pub within-requires : goal.within-requires
within-requires c =
    let house = subst IsHouse c.self.view_is c.self.invariant in
    let stays : c.in_ok-stays.stays.items ≡ c.args.self.now.stays = c.in_ok-stays.ensures.items ∙ c.deref.ensures.value ∙
    ap (λ (h : Inn). h.stays) c.self.view_is in
    opening_parts_are_within c.args.self.now _ _ house c.in_ok-rooms.ensures stays
