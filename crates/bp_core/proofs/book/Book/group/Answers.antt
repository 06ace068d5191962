use Rattle.std.proofs.Common.{◌∙◌, ◌<◌, ◌≤◌, ap, sym, subst, arith, length, refl}
use Rattle.std.proofs.lemmas.Bool.{and_parts, ltb-true, leb-true}
use Rattle.bp_types.specs.declared.command.Command.TheVariants.{Group}
use Rattle.bp_types.specs.Spans.{first_short}
use Rattle.bp_core.specs.Instance.{rooms_left_at}
use Rattle.bp_ledger.specs.Inventory.{Inventory, rooms_left_on}
use Rattle.bp_core.specs.Acting.{Diary, MayDo, command_refusal}
use Rattle.bp_core.specs.Log.{LogView}
use Rattle.bp_core.proofs.Counts.{has_room}
use Rattle.bp_core.proofs.Answering.{command_is_logged, done_logged, done_refused}
use Rattle.bp_core.proofs.InStepMore.{in_step_more}
use Rattle.bp_core.proofs.Resizing.{nights_of_stock}
use Rattle.bp_core.proofs.Stocking.{first_of_stock}
use Rattle.bp_core.proofs.Grouping.{group_is_legal, no_room_reply, no_room_follows, refusal_none, refusal_unquoted}
use Rattle.bp_core.proofs.book.Book.group.Goals as goal

pub first_full-requires : goal.first_full-requires
first_full-requires c =
    let may = let P : Diary → Type 0 = λ b. MayDo b c.args.caller (Group c.args.span c.args.rooms c.args.amount) in
    subst P (sym c.self.view_is) c.requires.may in
    let spans = and_parts _ _ (and_parts _ _ may.in_range).0 in
    let ordered : c.args.span.from < c.args.span.to = ltb-true _ _ spans.0 in
    let inside : c.args.span.to ≤ length c.self.inside.house.rooms = leb-true _ _ spans.1 in
    (ordered, omega (arith, inside, nights_of_stock c.self.inside.house c.self.inside.log.lines _ c.self.invariant.stock))

pub logged-requires-clause-room : goal.logged-requires-clause-room
logged-requires-clause-room c =
    omega (arith, has_room _ _ c.self.invariant.legal, c.self.invariant.line_room)

pub invariant_of-self : goal.invariant_of-self
invariant_of-self c =
    let may = let P : Diary → Type 0 = λ b. MayDo b c.args.caller (Group c.args.span c.args.rooms c.args.amount) in
    subst P (sym c.self.view_is) c.requires.may in
    let spans = and_parts _ _ (and_parts _ _ may.in_range).0 in
    let ordered : c.args.span.from < c.args.span.to = ltb-true _ _ spans.0 in
    let inside : c.args.span.to ≤ length c.self.inside.house.rooms = leb-true _ _ spans.1 in
    let first = c.first_full.ensures ∙ ap (λ (v : Inventory). first_short (rooms_left_on v) c.args.span c.args.rooms) c.self.invariant.stock ∙
    first_of_stock c.self.inside.house c.self.inside.log.lines c.args.span c.args.rooms ordered inside in
    let night = sym first ∙ c.in-Some.is in
    in_step_more _ _ _ _ _ _ _ _ _ _ _ _ c.self.invariant
    (group_is_legal _ _ c.args.caller c.args.rooms c.args.amount c.args.span _ c.self.invariant.legal may.caller_may may.in_range may.not_full
    (no_room_reply c.self.inside.house c.self.inside.log.lines c.args.span c.args.rooms c.args.amount c.in-Some.night night)) c.logged.ensures.log
    (no_room_follows _ _ _ _ _ _ c.args.caller c.args.rooms c.args.amount c.in-Some.night c.args.span c.self.invariant)

pub returns-in-Some : goal.returns-in-Some
returns-in-Some c =
    let may = let P : Diary → Type 0 = λ b. MayDo b c.args.caller (Group c.args.span c.args.rooms c.args.amount) in
    subst P (sym c.self.view_is) c.requires.may in
    let spans = and_parts _ _ (and_parts _ _ may.in_range).0 in
    let ordered : c.args.span.from < c.args.span.to = ltb-true _ _ spans.0 in
    let inside : c.args.span.to ≤ length c.self.inside.house.rooms = leb-true _ _ spans.1 in
    let first = c.first_full.ensures ∙ ap (λ (v : Inventory). first_short (rooms_left_on v) c.args.span c.args.rooms) c.self.invariant.stock ∙
    first_of_stock c.self.inside.house c.self.inside.log.lines c.args.span c.args.rooms ordered inside in
    let night = sym first ∙ c.in-Some.is in
    let none = ap (λ (b : Diary). command_refusal b.house b.history (Group c.args.span c.args.rooms c.args.amount) c.args.quoted) (sym c.self.view_is) ∙
    refusal_none c.self.inside.house c.self.inside.log.lines c.args.span c.args.rooms c.args.amount c.in-Some.night c.args.quoted night in
    done_logged _ _ c.args.caller (Group c.args.span c.args.rooms c.args.amount) c.args.quoted _ none
    (command_is_logged _ _ _ _ _ _ _ _ _ c.self.view_is c.logged.ensures.answer
    (no_room_reply c.self.inside.house c.self.inside.log.lines c.args.span c.args.rooms c.args.amount c.in-Some.night night)
    (ap (λ (l : LogView). l.lines) c.logged.ensures.log))

pub quoted_group-requires-clause-rooms : goal.quoted_group-requires-clause-rooms
quoted_group-requires-clause-rooms c =
    let may = let P : Diary → Type 0 = λ b. MayDo b c.args.caller (Group c.args.span c.args.rooms c.args.amount) in
    subst P (sym c.self.view_is) c.requires.may in
    let spans = and_parts _ _ (and_parts _ _ may.in_range).0 in
    let ordered : c.args.span.from < c.args.span.to = ltb-true _ _ spans.0 in
    let inside : c.args.span.to ≤ length c.self.inside.house.rooms = leb-true _ _ spans.1 in
    let first = c.first_full.ensures ∙ ap (λ (v : Inventory). first_short (rooms_left_on v) c.args.span c.args.rooms) c.self.invariant.stock ∙
    first_of_stock c.self.inside.house c.self.inside.log.lines c.args.span c.args.rooms ordered inside in
    ap (λ (b : Diary). first_short (rooms_left_at b.house b.history) c.args.span c.args.rooms) (sym c.self.view_is) ∙ sym first ∙ c.in-None.is

pub returns-in-None-quoted : goal.returns-in-None-quoted
returns-in-None-quoted c =
    let may = let P : Diary → Type 0 = λ b. MayDo b c.args.caller (Group c.args.span c.args.rooms c.args.amount) in
    subst P (sym c.self.view_is) c.requires.may in
    let spans = and_parts _ _ (and_parts _ _ may.in_range).0 in
    let ordered : c.args.span.from < c.args.span.to = ltb-true _ _ spans.0 in
    let inside : c.args.span.to ≤ length c.self.inside.house.rooms = leb-true _ _ spans.1 in
    let first = c.first_full.ensures ∙ ap (λ (v : Inventory). first_short (rooms_left_on v) c.args.span c.args.rooms) c.self.invariant.stock ∙
    first_of_stock c.self.inside.house c.self.inside.log.lines c.args.span c.args.rooms ordered inside in
    let refused = ap (λ (b : Diary). command_refusal b.house b.history (Group c.args.span c.args.rooms c.args.amount) c.args.quoted) (sym c.self.view_is) ∙
    refusal_unquoted c.self.inside.house c.self.inside.log.lines c.args.span c.args.rooms c.args.amount c.args.quoted (sym first ∙
    c.in-None.is) c.in-None-quoted.is in
    done_refused c.args.self.now c.args.self.now c.args.caller (Group c.args.span c.args.rooms c.args.amount) c.args.quoted _ refused refl
