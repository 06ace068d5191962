use Rattle.std.proofs.Common.{◌≡◌, ℕ, List, ◌∙◌, sym, ap, subst, length, arith}
use Rattle.std.proofs.lemmas.List.{with_items_is}
use Rattle.bp_types.specs.declared.change.Change.{Change}
use Rattle.bp_types.specs.declared.change.Change.TheVariants.{Rooms}
use Rattle.bp_types.specs.Program.{Program}
use Rattle.bp_types.specs.Changes.{Fits}
use Rattle.bp_types.specs.Rooms.{rooms_moved}
use Rattle.bp_types.proofs.RoomLemmas.{length-rooms_moved, moved_rooms_keep_limits}
use Rattle.bp_types.proofs.instance.Instance.apply.Goals as goal

pub invariant_of-self : goal.invariant_of-self
invariant_of-self c =
    let p : Program = record { rooms = c.self.inside.rooms.items; stays = c.self.inside.stays.items } in
    let fits : Fits p (Rooms c.in-Rooms.span c.in-Rooms.up c.in-Rooms.units) = let P : Change → Type 0 = λ x. Fits p x in
    subst P c.in-Rooms.is (let Q : Program → Type 0 = λ q. Fits q c.args.change in subst Q (sym c.self.view_is) c.requires) in
    let moved = c.move_rooms.ensures ∙ ap (λ r. rooms_moved r c.in-Rooms.span c.in-Rooms.up c.in-Rooms.units) c.deref_mut.ensures.value in
    let each : length c.move_rooms.new.rooms ≡ c.self.inside.rooms.len =
    omega (
      arith,
      ap (λ (r : List ℕ). length r) moved,
      length-rooms_moved c.self.inside.rooms.items c.in-Rooms.span c.in-Rooms.up c.in-Rooms.units,
      c.deref_mut.ensures.len,
      ap (λ (r : List ℕ). length r) c.deref_mut.ensures.value,
    ) in
    moved_rooms_keep_limits p c.in-Rooms.span c.in-Rooms.up c.in-Rooms.units _ c.self.invariant fits
    (with_items_is c.self.inside.rooms c.move_rooms.new.rooms each ∙ moved)
