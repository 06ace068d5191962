use Rattle.std.proofs.Common.{◌≡◌, ◌∙◌, ◌<◌, ◌≤◌, ◌*◌, ◌∷◌, [], ap, sym, subst, arith, length, Some, refl, false}
use Rattle.std.proofs.lemmas.Bool.{and_parts, ltb-true, leb-true}
use Rattle.bp_types.specs.declared.change.Change.TheVariants.{Rooms}
use Rattle.bp_types.specs.declared.command.Limits.{Limits}
use Rattle.bp_types.specs.declared.command.Command.TheVariants.{Group}
use Rattle.bp_types.specs.Spans.{first_short}
use Rattle.bp_core.specs.Instance.{rooms_left_at}
use Rattle.bp_ledger.specs.Inventory.{Inventory, HasLeft}
use Rattle.bp_core.specs.declared.line.Act.TheVariants.{Do}
use Rattle.bp_core.specs.declared.line.Reply.TheVariants.{GroupAccepted}
use Rattle.bp_core.specs.declared.line.Line.{Line}
use Rattle.bp_core.specs.Acting.{Diary, MayDo, IsQuoteFor, command_refusal, plain_line}
use Rattle.bp_core.specs.Changes.{changes_after}
use Rattle.bp_core.specs.Log.{LogView}
use Rattle.bp_core.proofs.Counts.{has_room}
use Rattle.bp_core.proofs.Answering.{pushed, command_is_logged, done_logged}
use Rattle.bp_core.proofs.InStepMore.{in_step_more}
use Rattle.bp_core.proofs.Resizing.{nights_of_stock}
use Rattle.bp_core.proofs.Stocking.{stock_has_left}
use Rattle.bp_core.proofs.Grouping.{group_is_legal, group_too_low, group_paid, too_low_follows, group_follows, refusal_fresh}
use Rattle.bp_core.proofs.book.Book.quoted_group.Goals as goal

pub logged-requires-clause-room : goal.logged-requires-clause-room
logged-requires-clause-room c =
    omega (arith, has_room _ _ c.self.invariant.legal, c.self.invariant.line_room)

pub logged-requires-else-paid-displacement-clause-room : goal.logged-requires-else-paid-displacement-clause-room
logged-requires-else-paid-displacement-clause-room c =
    omega (arith, has_room _ _ c.self.invariant.legal, c.self.invariant.line_room)

pub take-requires-clause-span : goal.take-requires-clause-span
take-requires-clause-span c =
    let may = let P : Diary → Type 0 = λ b. MayDo b c.args.caller (Group c.args.span c.args.rooms c.args.amount) in
    subst P (sym c.self.view_is) c.requires.may in
    let spans = and_parts _ _ (and_parts _ _ may.in_range).0 in
    let ordered : c.args.span.from < c.args.span.to = ltb-true _ _ spans.0 in
    let inside : c.args.span.to ≤ length c.self.inside.house.rooms = leb-true _ _ spans.1 in
    (ordered, omega (arith, inside, nights_of_stock c.self.inside.house c.self.inside.log.lines _ c.self.invariant.stock))

pub take-requires-clause-left : goal.take-requires-clause-left
take-requires-clause-left c =
    let may = let P : Diary → Type 0 = λ b. MayDo b c.args.caller (Group c.args.span c.args.rooms c.args.amount) in
    subst P (sym c.self.view_is) c.requires.may in
    let spans = and_parts _ _ (and_parts _ _ may.in_range).0 in
    let ordered : c.args.span.from < c.args.span.to = ltb-true _ _ spans.0 in
    let inside : c.args.span.to ≤ length c.self.inside.house.rooms = leb-true _ _ spans.1 in
    let first = ap (λ (b : Diary). first_short (rooms_left_at b.house b.history) c.args.span c.args.rooms) c.self.view_is ∙ c.requires.rooms in
    let P : Inventory → Type 0 = λ v. HasLeft v c.args.span c.args.rooms in
    subst P (sym c.self.invariant.stock) (stock_has_left c.self.inside.house c.self.inside.log.lines c.args.span c.args.rooms inside first)

pub invariant_of-self : goal.invariant_of-self
invariant_of-self c =
    let may = let P : Diary → Type 0 = λ b. MayDo b c.args.caller (Group c.args.span c.args.rooms c.args.amount) in
    subst P (sym c.self.view_is) c.requires.may in
    let spans = and_parts _ _ (and_parts _ _ may.in_range).0 in
    let ordered : c.args.span.from < c.args.span.to = ltb-true _ _ spans.0 in
    let inside : c.args.span.to ≤ length c.self.inside.house.rooms = leb-true _ _ spans.1 in
    let first = ap (λ (b : Diary). first_short (rooms_left_at b.house b.history) c.args.span c.args.rooms) c.self.view_is ∙ c.requires.rooms in
    let right = let P : Diary → Type 0 = λ b. IsQuoteFor b.house b.history (Group c.args.span c.args.rooms c.args.amount) c.args.quote in
    subst P (sym c.self.view_is) c.requires.right in
    let changes = c.changes_after-changes.ensures ∙ ap (λ (b : Diary). changes_after b.history c.args.quote.position) (sym c.self.view_is) in
    let none : changes_after c.self.inside.log.lines c.args.quote.position ≡ 0 = omega (arith, changes, c.if-changes-ge1.false) in
    let unit = ap (λ (l : Limits). l.unit) c.limits-unit.ensures.value in
    let paid = ap (λ u. u * c.from-2.result) (c.from.ensures ∙ unit) ∙ ap (λ a. c.self.inside.house.limits.unit * a) c.from-2.ensures in
    let reply = group_too_low c.self.inside.house c.self.inside.log.lines c.args.span c.args.rooms c.args.amount c.args.quote.displacement
    c.args.quote.position _ first right.0 none right.1 paid c.if-paid-displacement.true in
    in_step_more _ _ _ _ _ _ _ _ _ _ _ _ c.self.invariant
    (group_is_legal _ _ c.args.caller c.args.rooms c.args.amount c.args.span _ c.self.invariant.legal may.caller_may may.in_range may.not_full reply)
    c.logged.ensures.log (too_low_follows _ _ _ _ _ _ c.args.caller c.args.rooms c.args.amount c.args.quote.displacement c.args.span c.self.invariant)

pub invariant_of-self-else-paid-displacement : goal.invariant_of-self-else-paid-displacement
invariant_of-self-else-paid-displacement c =
    let may = let P : Diary → Type 0 = λ b. MayDo b c.args.caller (Group c.args.span c.args.rooms c.args.amount) in
    subst P (sym c.self.view_is) c.requires.may in
    let spans = and_parts _ _ (and_parts _ _ may.in_range).0 in
    let ordered : c.args.span.from < c.args.span.to = ltb-true _ _ spans.0 in
    let inside : c.args.span.to ≤ length c.self.inside.house.rooms = leb-true _ _ spans.1 in
    let first = ap (λ (b : Diary). first_short (rooms_left_at b.house b.history) c.args.span c.args.rooms) c.self.view_is ∙ c.requires.rooms in
    let right = let P : Diary → Type 0 = λ b. IsQuoteFor b.house b.history (Group c.args.span c.args.rooms c.args.amount) c.args.quote in
    subst P (sym c.self.view_is) c.requires.right in
    let changes = c.changes_after-changes.ensures ∙ ap (λ (b : Diary). changes_after b.history c.args.quote.position) (sym c.self.view_is) in
    let none : changes_after c.self.inside.log.lines c.args.quote.position ≡ 0 = omega (arith, changes, c.if-changes-ge1.false) in
    let unit = ap (λ (l : Limits). l.unit) c.limits-unit.ensures.value in
    let paid = ap (λ u. u * c.from-2.result) (c.from.ensures ∙ unit) ∙ ap (λ a. c.self.inside.house.limits.unit * a) c.from-2.ensures in
    let reply = group_paid c.self.inside.house c.self.inside.log.lines c.args.span c.args.rooms c.args.amount c.args.quote.displacement c.args.quote.position
    _ first right.0 none right.1 paid c.if-paid-displacement.false in
    let x : Line = plain_line c.args.caller (Do (Group c.args.span c.args.rooms c.args.amount)) (GroupAccepted c.args.quote.displacement) in
    let log = c.logged-else-paid-displacement.ensures.log ∙ ap (λ u. pushed c.self.inside.log x (Rooms c.args.span false (u * c.args.rooms) ∷ [])) unit in
    in_step_more _ _ _ _ _ _ _ _ _ _ _ _ c.self.invariant
    (group_is_legal _ _ c.args.caller c.args.rooms c.args.amount c.args.span _ c.self.invariant.legal may.caller_may may.in_range may.not_full reply) log
    (group_follows _ _ _ _ _ _ _ c.args.caller c.args.rooms c.args.amount c.args.quote.displacement c.args.span c.self.invariant c.take.ensures)

pub returns-then-paid-displacement : goal.returns-then-paid-displacement
returns-then-paid-displacement c =
    let may = let P : Diary → Type 0 = λ b. MayDo b c.args.caller (Group c.args.span c.args.rooms c.args.amount) in
    subst P (sym c.self.view_is) c.requires.may in
    let spans = and_parts _ _ (and_parts _ _ may.in_range).0 in
    let ordered : c.args.span.from < c.args.span.to = ltb-true _ _ spans.0 in
    let inside : c.args.span.to ≤ length c.self.inside.house.rooms = leb-true _ _ spans.1 in
    let first = ap (λ (b : Diary). first_short (rooms_left_at b.house b.history) c.args.span c.args.rooms) c.self.view_is ∙ c.requires.rooms in
    let right = let P : Diary → Type 0 = λ b. IsQuoteFor b.house b.history (Group c.args.span c.args.rooms c.args.amount) c.args.quote in
    subst P (sym c.self.view_is) c.requires.right in
    let changes = c.changes_after-changes.ensures ∙ ap (λ (b : Diary). changes_after b.history c.args.quote.position) (sym c.self.view_is) in
    let none : changes_after c.self.inside.log.lines c.args.quote.position ≡ 0 = omega (arith, changes, c.if-changes-ge1.false) in
    let unit = ap (λ (l : Limits). l.unit) c.limits-unit.ensures.value in
    let paid = ap (λ u. u * c.from-2.result) (c.from.ensures ∙ unit) ∙ ap (λ a. c.self.inside.house.limits.unit * a) c.from-2.ensures in
    let reply = group_too_low c.self.inside.house c.self.inside.log.lines c.args.span c.args.rooms c.args.amount c.args.quote.displacement
    c.args.quote.position _ first right.0 none right.1 paid c.if-paid-displacement.true in
    let refused = ap (λ (b : Diary). command_refusal b.house b.history (Group c.args.span c.args.rooms c.args.amount) (Some c.args.quote))
    (sym c.self.view_is) ∙ refusal_fresh c.self.inside.house c.self.inside.log.lines c.args.span c.args.rooms c.args.amount (Some c.args.quote)
    c.args.quote first refl none in
    done_logged _ _ c.args.caller (Group c.args.span c.args.rooms c.args.amount) (Some c.args.quote) _ refused
    (command_is_logged _ _ _ _ _ _ _ _ _ c.self.view_is c.logged.ensures.answer reply (ap (λ (l : LogView). l.lines) c.logged.ensures.log))

pub returns-else-paid-displacement : goal.returns-else-paid-displacement
returns-else-paid-displacement c =
    let may = let P : Diary → Type 0 = λ b. MayDo b c.args.caller (Group c.args.span c.args.rooms c.args.amount) in
    subst P (sym c.self.view_is) c.requires.may in
    let spans = and_parts _ _ (and_parts _ _ may.in_range).0 in
    let ordered : c.args.span.from < c.args.span.to = ltb-true _ _ spans.0 in
    let inside : c.args.span.to ≤ length c.self.inside.house.rooms = leb-true _ _ spans.1 in
    let first = ap (λ (b : Diary). first_short (rooms_left_at b.house b.history) c.args.span c.args.rooms) c.self.view_is ∙ c.requires.rooms in
    let right = let P : Diary → Type 0 = λ b. IsQuoteFor b.house b.history (Group c.args.span c.args.rooms c.args.amount) c.args.quote in
    subst P (sym c.self.view_is) c.requires.right in
    let changes = c.changes_after-changes.ensures ∙ ap (λ (b : Diary). changes_after b.history c.args.quote.position) (sym c.self.view_is) in
    let none : changes_after c.self.inside.log.lines c.args.quote.position ≡ 0 = omega (arith, changes, c.if-changes-ge1.false) in
    let unit = ap (λ (l : Limits). l.unit) c.limits-unit.ensures.value in
    let paid = ap (λ u. u * c.from-2.result) (c.from.ensures ∙ unit) ∙ ap (λ a. c.self.inside.house.limits.unit * a) c.from-2.ensures in
    let reply = group_paid c.self.inside.house c.self.inside.log.lines c.args.span c.args.rooms c.args.amount c.args.quote.displacement c.args.quote.position
    _ first right.0 none right.1 paid c.if-paid-displacement.false in
    let refused = ap (λ (b : Diary). command_refusal b.house b.history (Group c.args.span c.args.rooms c.args.amount) (Some c.args.quote))
    (sym c.self.view_is) ∙ refusal_fresh c.self.inside.house c.self.inside.log.lines c.args.span c.args.rooms c.args.amount (Some c.args.quote)
    c.args.quote first refl none in
    done_logged _ _ c.args.caller (Group c.args.span c.args.rooms c.args.amount) (Some c.args.quote) _ refused
    (command_is_logged _ _ _ _ _ _ _ _ _ c.self.view_is c.logged-else-paid-displacement.ensures.answer reply
    (ap (λ (l : LogView). l.lines) c.logged-else-paid-displacement.ensures.log))
