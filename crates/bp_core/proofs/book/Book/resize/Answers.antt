use Rattle.std.proofs.Common.{◌∙◌, ◌<◌, ◌≤◌, ap, sym, subst, arith, length, refl, slice_index, ◌∷◌, []}
use Rattle.std.proofs.lemmas.Bool.{and_parts, ltb-true}
use Rattle.bp_types.specs.declared.command.Command.TheVariants.{Resize}
use Rattle.bp_ledger.specs.Inventory.{Inventory}
use Rattle.bp_core.specs.Acting.{Diary, MayDo, plain_line}
use Rattle.bp_core.specs.Instance.{sold_at}
use Rattle.bp_types.specs.declared.command.Limits.{Limits}
use Rattle.bp_types.specs.declared.change.Change.{Change}
use Rattle.bp_core.specs.declared.line.Act.TheVariants.{Do}
use Rattle.bp_core.specs.declared.line.Reply.TheVariants.{Done}
use Rattle.bp_core.specs.declared.line.Line.{Line}
use Rattle.bp_core.specs.Changes.{resize_delta}
use Rattle.bp_core.specs.Log.{LogView}
use Rattle.bp_core.proofs.Counts.{has_room}
use Rattle.bp_core.proofs.InStepMore.{in_step_more}
use Rattle.bp_core.proofs.Answering.{command_is_logged, pushed}
use Rattle.bp_core.proofs.Resizing.{resize_is_legal, below_sold_reply, done_reply, below_sold_follows, resized_follows, nights_of_stock, above_sold}
use Rattle.bp_core.proofs.Stocking.{sold_of_stock, rooms_of_stock}
use Rattle.bp_core.proofs.Sound.{sound_now}
use Rattle.bp_core.proofs.book.Book.resize.Goals as goal

pub rooms-old-requires : goal.rooms-old-requires
rooms-old-requires c =
    let may = let P : Diary → Type 0 = λ b. MayDo b c.args.caller (Resize c.args.night c.args.rooms) in subst P (sym c.self.view_is) c.requires in
    let within : c.args.night < length c.self.inside.house.rooms = ltb-true _ _ (and_parts _ _ may.in_range).0 in
    omega (arith, within, nights_of_stock c.self.inside.house c.self.inside.log.lines _ c.self.invariant.stock)

pub resize-requires : goal.resize-requires
resize-requires c =
    let may = let P : Diary → Type 0 = λ b. MayDo b c.args.caller (Resize c.args.night c.args.rooms) in subst P (sym c.self.view_is) c.requires in
    let within : c.args.night < length c.self.inside.house.rooms = ltb-true _ _ (and_parts _ _ may.in_range).0 in
    omega (arith, within, nights_of_stock c.self.inside.house c.self.inside.log.lines _ c.self.invariant.stock)

pub logged-requires-clause-room : goal.logged-requires-clause-room
logged-requires-clause-room c = omega (arith, has_room _ _ c.self.invariant.legal, c.self.invariant.line_room)

pub logged-requires-in-Ok-clause-room : goal.logged-requires-in-Ok-clause-room
logged-requires-in-Ok-clause-room c = omega (arith, has_room _ _ c.self.invariant.legal, c.self.invariant.line_room)

pub resize_delta-delta-requires-clause-old : goal.resize_delta-delta-requires-clause-old
resize_delta-delta-requires-clause-old c =
    let may = let P : Diary → Type 0 = λ b. MayDo b c.args.caller (Resize c.args.night c.args.rooms) in subst P (sym c.self.view_is) c.requires in
    let within : c.args.night < length c.self.inside.house.rooms = ltb-true _ _ (and_parts _ _ may.in_range).0 in
    let sound = sound_now _ _ c.self.invariant.house c.self.invariant.legal in
    let old = c.rooms-old.ensures.value ∙ ap (λ (v : Inventory). slice_index v.rooms c.args.night) c.self.invariant.stock ∙
    rooms_of_stock c.self.inside.house c.self.inside.log.lines c.args.night within in
    omega (arith, old, sound.rooms c.args.night within)

pub invariant_of-self : goal.invariant_of-self
invariant_of-self c =
    let may = let P : Diary → Type 0 = λ b. MayDo b c.args.caller (Resize c.args.night c.args.rooms) in subst P (sym c.self.view_is) c.requires in
    let within : c.args.night < length c.self.inside.house.rooms = ltb-true _ _ (and_parts _ _ may.in_range).0 in
    let sold = ap (λ (v : Inventory). slice_index v.sold c.args.night) c.self.invariant.stock ∙
    sold_of_stock c.self.inside.house c.self.inside.log.lines c.args.night within in
    let is = c.in-Err.ensures.sold ∙ sold in
    let below : c.args.rooms < c.in-Err.below.sold = omega (arith, c.in-Err.ensures.sold, c.in-Err.ensures.below_sold.0 refl) in
    rw c.in-Err.ensures.unchanged
    (in_step_more _ _ _ _ _ _ _ _ _ _ _ _ c.self.invariant
    (resize_is_legal _ _ c.args.caller c.args.night c.args.rooms _ c.self.invariant.legal may.caller_may may.in_range may.not_full
    (below_sold_reply c.self.inside.house c.self.inside.log.lines c.args.night c.args.rooms _ is below)) c.logged.ensures.log
    (below_sold_follows _ _ _ _ _ _ c.args.caller c.args.night c.args.rooms c.in-Err.below.sold c.self.invariant))

pub returns-in-Err : goal.returns-in-Err
returns-in-Err c =
    let may = let P : Diary → Type 0 = λ b. MayDo b c.args.caller (Resize c.args.night c.args.rooms) in subst P (sym c.self.view_is) c.requires in
    let within : c.args.night < length c.self.inside.house.rooms = ltb-true _ _ (and_parts _ _ may.in_range).0 in
    let sold = ap (λ (v : Inventory). slice_index v.sold c.args.night) c.self.invariant.stock ∙
    sold_of_stock c.self.inside.house c.self.inside.log.lines c.args.night within in
    let is = c.in-Err.ensures.sold ∙ sold in
    let below : c.args.rooms < c.in-Err.below.sold = omega (arith, c.in-Err.ensures.sold, c.in-Err.ensures.below_sold.0 refl) in
    command_is_logged _ _ _ _ _ _ _ _ _ c.self.view_is c.logged.ensures.answer
    (below_sold_reply c.self.inside.house c.self.inside.log.lines c.args.night c.args.rooms _ is below) (ap (λ (l : LogView). l.lines) c.logged.ensures.log)

pub invariant_of-self-in-Ok : goal.invariant_of-self-in-Ok
invariant_of-self-in-Ok c =
    let may = let P : Diary → Type 0 = λ b. MayDo b c.args.caller (Resize c.args.night c.args.rooms) in subst P (sym c.self.view_is) c.requires in
    let within : c.args.night < length c.self.inside.house.rooms = ltb-true _ _ (and_parts _ _ may.in_range).0 in
    let sold = ap (λ (v : Inventory). slice_index v.sold c.args.night) c.self.invariant.stock ∙
    sold_of_stock c.self.inside.house c.self.inside.log.lines c.args.night within in
    let above : sold_at c.self.inside.house c.self.inside.log.lines c.args.night ≤ c.args.rooms =
    omega (arith, sold, above_sold _ _ c.in-Ok.ensures.below_sold.1) in
    let old = c.rooms-old.ensures.value ∙ ap (λ (v : Inventory). slice_index v.rooms c.args.night) c.self.invariant.stock ∙
    rooms_of_stock c.self.inside.house c.self.inside.log.lines c.args.night within in
    let unit = ap (λ (l : Limits). l.unit) c.limits.ensures.value in
    let delta = c.resize_delta-delta.ensures ∙ ap (λ u. resize_delta u c.args.night c.rooms-old.result c.args.rooms) unit ∙
    ap (λ o. resize_delta c.self.inside.house.limits.unit c.args.night o c.args.rooms) old in
    let x : Line = plain_line c.args.caller (Do (Resize c.args.night c.args.rooms)) Done in
    let log = c.logged-in-Ok.ensures.log ∙ ap (λ (d : Change). pushed c.self.inside.log x (d ∷ [])) delta in
    in_step_more _ _ _ _ _ _ _ _ _ _ _ _ c.self.invariant
    (resize_is_legal _ _ c.args.caller c.args.night c.args.rooms _ c.self.invariant.legal may.caller_may may.in_range may.not_full
    (done_reply c.self.inside.house c.self.inside.log.lines c.args.night c.args.rooms above)) log
    (resized_follows _ _ _ _ _ _ _ c.args.caller c.args.night c.args.rooms c.self.invariant within c.in-Ok.ensures.resized)

pub returns-in-Ok : goal.returns-in-Ok
returns-in-Ok c =
    let may = let P : Diary → Type 0 = λ b. MayDo b c.args.caller (Resize c.args.night c.args.rooms) in subst P (sym c.self.view_is) c.requires in
    let within : c.args.night < length c.self.inside.house.rooms = ltb-true _ _ (and_parts _ _ may.in_range).0 in
    let sold = ap (λ (v : Inventory). slice_index v.sold c.args.night) c.self.invariant.stock ∙
    sold_of_stock c.self.inside.house c.self.inside.log.lines c.args.night within in
    let above : sold_at c.self.inside.house c.self.inside.log.lines c.args.night ≤ c.args.rooms =
    omega (arith, sold, above_sold _ _ c.in-Ok.ensures.below_sold.1) in
    command_is_logged _ _ _ _ _ _ _ _ _ c.self.view_is c.logged-in-Ok.ensures.answer
    (done_reply c.self.inside.house c.self.inside.log.lines c.args.night c.args.rooms above) (ap (λ (l : LogView). l.lines) c.logged-in-Ok.ensures.log)
