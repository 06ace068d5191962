use Rattle.std.proofs.Common.{◌∙◌, ◌<◌, ap, arith, length, slice_index}
use Rattle.bp_ledger.specs.Inventory.{Inventory}
use Rattle.bp_core.specs.Acting.{Diary}
use Rattle.bp_core.specs.Instance.{rooms_at}
use Rattle.bp_core.proofs.Resizing.{nights_of_stock}
use Rattle.bp_core.proofs.Stocking.{rooms_of_stock}
use Rattle.bp_core.proofs.book.Book.rooms.Goals as goal

pub rooms-requires : goal.rooms-requires
rooms-requires c = omega (
  arith,
  c.requires,
  ap (λ (b : Diary). length b.house.rooms) c.self.view_is,
  nights_of_stock c.self.inside.house c.self.inside.log.lines _ c.self.invariant.stock,
)

pub returns : goal.returns
returns c =
    let within : c.args.night < length c.self.inside.house.rooms = omega (arith, c.requires, ap (λ (b : Diary). length b.house.rooms) c.self.view_is) in
    c.rooms.ensures.value ∙ ap (λ (v : Inventory). slice_index v.rooms c.args.night) c.self.invariant.stock ∙
    rooms_of_stock c.self.inside.house c.self.inside.log.lines c.args.night within ∙
    ap (λ (b : Diary). rooms_at b.house b.history c.args.night) c.self.view_is
