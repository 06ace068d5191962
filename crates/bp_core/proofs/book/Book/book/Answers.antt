use Rattle.std.proofs.Common.{◌≡◌, ◌∙◌, ◌<◌, ◌≤◌, ◌-◌, ap, sym, subst, arith, length, List, ℕ, refl, false}
use Rattle.std.proofs.lemmas.Bool.{ltb-true}
use Rattle.std.proofs.lemmas.List.FromFn.{length-map-range_with_len}
use Rattle.bp_types.specs.declared.stay.Span.{Span}
use Rattle.bp_types.specs.declared.stay.Stay.{Stay}
use Rattle.bp_types.specs.declared.change.Change.{Change}
use Rattle.bp_types.specs.declared.command.Limits.{Limits}
use Rattle.bp_types.specs.declared.command.Command.TheVariants.{Book}
use Rattle.bp_types.specs.Program.{no_stay}
use Rattle.bp_types.specs.Spans.{first_short}
use Rattle.bp_ledger.specs.Inventory.{Inventory, HasLeft, taken}
use Rattle.bp_core.specs.declared.line.Act.TheVariants.{Do}
use Rattle.bp_core.specs.declared.line.Line.{Line}
use Rattle.bp_core.specs.Acting.{Diary, MayDo, plain_line}
use Rattle.bp_core.specs.Answer.{book_reply}
use Rattle.bp_core.specs.Changes.{changes_between, changes_after}
use Rattle.bp_core.specs.Lines.{last_position, is_accepted}
use Rattle.bp_core.specs.Instance.{forecast_of, rooms_left_at}
use Rattle.bp_core.specs.Keeping.{inventory_of, fate_by}
use Rattle.bp_core.proofs.Counts.{has_room}
use Rattle.bp_core.proofs.Answering.{pushed}
use Rattle.bp_core.proofs.Effects.{number_read}
use Rattle.bp_core.proofs.InStepMore.{in_step_more}
use Rattle.bp_core.proofs.Replies.{accepted_has_room}
use Rattle.bp_core.proofs.Resizing.{nights_of_stock}
use Rattle.bp_core.proofs.Setting.{not_full_allowed}
use Rattle.bp_core.proofs.Stocking.{stock_has_left}
use Rattle.bp_core.proofs.Bookings.{act_is_small, books_are_commands}
use Rattle.bp_core.proofs.Booked.{book_is_legal, book_follows, stock_booked, stock_refused, deltas_booked, deltas_refused}
use Rattle.bp_core.proofs.book.Book.book.Goals as goal

pub index-requires : goal.index-requires
index-requires c =
    let may = let P : Diary → Type 0 = λ b. MayDo b c.args.caller (Book c.args.stay) in subst P (sym c.self.view_is) c.requires in
    let within : c.args.stay < length c.self.inside.house.stays = ltb-true _ _ may.in_range in
    omega (
      arith,
      within,
      c.self.inside.forecasts.ok.0,
      ap (λ (l : List ℕ). length l) c.self.invariant.forecasts_are,
      length-map-range_with_len (forecast_of c.self.inside.house c.self.inside.log.lines) 0 (length c.self.inside.house.stays),
    )

pub index_mut-requires : goal.index_mut-requires
index_mut-requires c =
    let may = let P : Diary → Type 0 = λ b. MayDo b c.args.caller (Book c.args.stay) in subst P (sym c.self.view_is) c.requires in
    let within : c.args.stay < length c.self.inside.house.stays = ltb-true _ _ may.in_range in
    omega (
      arith,
      within,
      c.self.inside.forecasts.ok.0,
      ap (λ (l : List ℕ). length l) c.self.invariant.forecasts_are,
      length-map-range_with_len (forecast_of c.self.inside.house c.self.inside.log.lines) 0 (length c.self.inside.house.stays),
    )

pub take-requires-clause-span : goal.take-requires-clause-span
take-requires-clause-span c =
    let may = let P : Diary → Type 0 = λ b. MayDo b c.args.caller (Book c.args.stay) in subst P (sym c.self.view_is) c.requires in
    let within : c.args.stay < length c.self.inside.house.stays = ltb-true _ _ may.in_range in
    let span = ap (λ (s : Stay). s.span) c.stay.ensures in
    let spans = c.self.invariant.house.instance.spans c.args.stay no_stay within in
    let ordered : c.stay.result.span.from < c.stay.result.span.to = omega (arith, spans.0, ap (λ (s : Span). s.from) span, ap (λ (s : Span). s.to) span) in
    let inside : c.stay.result.span.to ≤ length c.self.inside.house.rooms = omega (arith, spans.1, ap (λ (s : Span). s.to) span) in
    (ordered, omega (arith, inside, nights_of_stock c.self.inside.house c.self.inside.log.lines _ c.self.invariant.stock))

pub take-requires-clause-left : goal.take-requires-clause-left
take-requires-clause-left c =
    let may = let P : Diary → Type 0 = λ b. MayDo b c.args.caller (Book c.args.stay) in subst P (sym c.self.view_is) c.requires in
    let within : c.args.stay < length c.self.inside.house.stays = ltb-true _ _ may.in_range in
    let span = ap (λ (s : Stay). s.span) c.stay.ensures in
    let spans = c.self.invariant.house.instance.spans c.args.stay no_stay within in
    let ordered : c.stay.result.span.from < c.stay.result.span.to = omega (arith, spans.0, ap (λ (s : Span). s.from) span, ap (λ (s : Span). s.to) span) in
    let inside : c.stay.result.span.to ≤ length c.self.inside.house.rooms = omega (arith, spans.1, ap (λ (s : Span). s.to) span) in
    let reply = c.book_reply-reply.ensures ∙ ap (λ (b : Diary). book_reply b.house b.history c.args.stay) (sym c.self.view_is) in
    let accepted = sym c.is_accepted.ensures ∙ c.if-is_accepted.true in
    let none = ap (λ s. first_short (rooms_left_at c.self.inside.house c.self.inside.log.lines) s 1) span ∙
    accepted_has_room c.self.inside.house c.self.inside.log.lines c.args.stay (sym (ap is_accepted reply) ∙ accepted) in
    let P : Inventory → Type 0 = λ v. HasLeft v c.stay.result.span 1 in
    subst P (sym c.self.invariant.stock) (stock_has_left c.self.inside.house c.self.inside.log.lines c.stay.result.span 1 inside none)

pub add-requires-clause-caller : goal.add-requires-clause-caller
add-requires-clause-caller c =
    let may = let P : Diary → Type 0 = λ b. MayDo b c.args.caller (Book c.args.stay) in subst P (sym c.self.view_is) c.requires in
    let within : c.args.stay < length c.self.inside.house.stays = ltb-true _ _ may.in_range in
    let small = act_is_small c.self.inside.house c.self.inside.log.lines c.args.caller c.self.invariant.legal may.caller_may in
    small

pub add-requires-clause-room : goal.add-requires-clause-room
add-requires-clause-room c =
    let may = let P : Diary → Type 0 = λ b. MayDo b c.args.caller (Book c.args.stay) in subst P (sym c.self.view_is) c.requires in
    let within : c.args.stay < length c.self.inside.house.stays = ltb-true _ _ may.in_range in
    let small = act_is_small c.self.inside.house c.self.inside.log.lines c.args.caller c.self.invariant.legal may.caller_may in
    omega (
      arith,
      (c.self.invariant.bookings c.args.caller small).as_many,
      books_are_commands c.self.inside.log.lines c.args.caller,
      ltb-true _ _ (not_full_allowed _ _ c.self.invariant.legal may.not_full),
      c.self.invariant.roll_room,
    )

pub logged-requires-clause-room : goal.logged-requires-clause-room
logged-requires-clause-room c =
    omega (arith, has_room _ _ c.self.invariant.legal, c.self.invariant.line_room)

pub add-requires-else-is_accepted-clause-caller : goal.add-requires-else-is_accepted-clause-caller
add-requires-else-is_accepted-clause-caller c =
    let may = let P : Diary → Type 0 = λ b. MayDo b c.args.caller (Book c.args.stay) in subst P (sym c.self.view_is) c.requires in
    let within : c.args.stay < length c.self.inside.house.stays = ltb-true _ _ may.in_range in
    let small = act_is_small c.self.inside.house c.self.inside.log.lines c.args.caller c.self.invariant.legal may.caller_may in
    small

pub add-requires-else-is_accepted-clause-room : goal.add-requires-else-is_accepted-clause-room
add-requires-else-is_accepted-clause-room c =
    let may = let P : Diary → Type 0 = λ b. MayDo b c.args.caller (Book c.args.stay) in subst P (sym c.self.view_is) c.requires in
    let within : c.args.stay < length c.self.inside.house.stays = ltb-true _ _ may.in_range in
    let small = act_is_small c.self.inside.house c.self.inside.log.lines c.args.caller c.self.invariant.legal may.caller_may in
    omega (
      arith,
      (c.self.invariant.bookings c.args.caller small).as_many,
      books_are_commands c.self.inside.log.lines c.args.caller,
      ltb-true _ _ (not_full_allowed _ _ c.self.invariant.legal may.not_full),
      c.self.invariant.roll_room,
    )

pub logged-requires-else-is_accepted-clause-room : goal.logged-requires-else-is_accepted-clause-room
logged-requires-else-is_accepted-clause-room c =
    omega (arith, has_room _ _ c.self.invariant.legal, c.self.invariant.line_room)

pub invariant_of-self : goal.invariant_of-self
invariant_of-self c =
    let may = let P : Diary → Type 0 = λ b. MayDo b c.args.caller (Book c.args.stay) in subst P (sym c.self.view_is) c.requires in
    let within : c.args.stay < length c.self.inside.house.stays = ltb-true _ _ may.in_range in
    let small = act_is_small c.self.inside.house c.self.inside.log.lines c.args.caller c.self.invariant.legal may.caller_may in
    let reply = c.book_reply-reply.ensures ∙ ap (λ (b : Diary). book_reply b.house b.history c.args.stay) (sym c.self.view_is) in
    let H = c.self.inside.log.lines in
    let from : c.position-position.result ≡ last_position c.self.inside.log.lines = c.position-position.ensures.value ∙ c.last_board.ensures.position ∙
    ap (λ (b : Diary). last_position b.history) (sym c.self.view_is) in
    let until : c.length.result ≡ length c.self.inside.log.lines = c.length.ensures.value ∙ ap (λ (b : Diary). length b.history) (sym c.self.view_is) in
    let changes = c.changes_up_to-changes.ensures ∙
    ap (λ (b : Diary). changes_between b.history c.position-position.result c.length.result) (sym c.self.view_is) ∙
    ap (λ n. changes_between H n c.length.result) from ∙ ap (changes_between H (last_position H)) until in
    let fresh : changes_after c.self.inside.log.lines (last_position c.self.inside.log.lines) < c.self.inside.house.limits.stale_after =
    omega (arith, changes, c.if-changes-limits.false, ap (λ (l : Limits). l.stale_after) c.limits.ensures.value) in
    let units = ap (λ (l : Limits). l.unit) c.limits-units.ensures.value in
    let read = number_read (forecast_of c.self.inside.house c.self.inside.log.lines) (length c.self.inside.house.stays)
    c.args.stay _ c.self.inside.forecasts.items c.self.invariant.forecasts_are within c.index.ensures in
    let value : c.saturating_sub-value.result ≡ forecast_of c.self.inside.house c.self.inside.log.lines c.args.stay - c.self.inside.house.limits.unit =
    c.saturating_sub-value.ensures ∙ ap (λ n. n - c.limits-units.result.unit) read ∙
    ap (λ u. forecast_of c.self.inside.house c.self.inside.log.lines c.args.stay - u) units in
    let span = ap (λ (s : Stay). s.span) c.stay.ensures in
    let accepted = sym c.is_accepted.ensures ∙ c.if-is_accepted.true in
    let x : Line = plain_line c.args.caller (Do (Book c.args.stay)) c.book_reply-reply.result in
    let log = c.logged.ensures.log ∙
    ap (λ (d : List Change). pushed c.self.inside.log x d)
    (deltas_booked c.self.inside.house c.self.inside.log.lines c.args.caller c.args.stay _ _ _ c.book_reply-reply.result accepted span units value) in
    let stock = c.take.ensures ∙ ap (λ v. taken v c.stay.result.span 1) c.self.invariant.stock ∙
    ap (λ s. taken (inventory_of c.self.inside.house c.self.inside.log.lines) s 1) span ∙
    stock_booked c.self.inside.house c.self.inside.log.lines c.args.caller c.args.stay c.book_reply-reply.result accepted in
    rw c.add.ensures (in_step_more _ _ _ _ _ _ _ _ _ _ _ _ c.self.invariant
    (book_is_legal _ _ c.args.caller c.args.stay _ c.self.invariant.legal may.caller_may may.in_range may.not_full fresh reply) log
    (book_follows _ _ _ _ _ _ _ c.args.caller c.args.stay _ _ _ c.self.invariant small within value refl (ap (λ b. fate_by b false) (sym accepted)) stock))

pub invariant_of-self-else-is_accepted : goal.invariant_of-self-else-is_accepted
invariant_of-self-else-is_accepted c =
    let may = let P : Diary → Type 0 = λ b. MayDo b c.args.caller (Book c.args.stay) in subst P (sym c.self.view_is) c.requires in
    let within : c.args.stay < length c.self.inside.house.stays = ltb-true _ _ may.in_range in
    let small = act_is_small c.self.inside.house c.self.inside.log.lines c.args.caller c.self.invariant.legal may.caller_may in
    let reply = c.book_reply-reply.ensures ∙ ap (λ (b : Diary). book_reply b.house b.history c.args.stay) (sym c.self.view_is) in
    let H = c.self.inside.log.lines in
    let from : c.position-position.result ≡ last_position c.self.inside.log.lines = c.position-position.ensures.value ∙ c.last_board.ensures.position ∙
    ap (λ (b : Diary). last_position b.history) (sym c.self.view_is) in
    let until : c.length.result ≡ length c.self.inside.log.lines = c.length.ensures.value ∙ ap (λ (b : Diary). length b.history) (sym c.self.view_is) in
    let changes = c.changes_up_to-changes.ensures ∙
    ap (λ (b : Diary). changes_between b.history c.position-position.result c.length.result) (sym c.self.view_is) ∙
    ap (λ n. changes_between H n c.length.result) from ∙ ap (changes_between H (last_position H)) until in
    let fresh : changes_after c.self.inside.log.lines (last_position c.self.inside.log.lines) < c.self.inside.house.limits.stale_after =
    omega (arith, changes, c.if-changes-limits.false, ap (λ (l : Limits). l.stale_after) c.limits.ensures.value) in
    let units = ap (λ (l : Limits). l.unit) c.limits-units.ensures.value in
    let read = number_read (forecast_of c.self.inside.house c.self.inside.log.lines) (length c.self.inside.house.stays)
    c.args.stay _ c.self.inside.forecasts.items c.self.invariant.forecasts_are within c.index.ensures in
    let value : c.saturating_sub-value.result ≡ forecast_of c.self.inside.house c.self.inside.log.lines c.args.stay - c.self.inside.house.limits.unit =
    c.saturating_sub-value.ensures ∙ ap (λ n. n - c.limits-units.result.unit) read ∙
    ap (λ u. forecast_of c.self.inside.house c.self.inside.log.lines c.args.stay - u) units in
    let refused = sym c.is_accepted.ensures ∙ c.if-is_accepted.false in
    let x : Line = plain_line c.args.caller (Do (Book c.args.stay)) c.book_reply-reply.result in
    let log = c.logged-else-is_accepted.ensures.log ∙
    ap (λ (d : List Change). pushed c.self.inside.log x d)
    (deltas_refused c.self.inside.house c.self.inside.log.lines c.args.caller c.args.stay _ c.book_reply-reply.result refused value) in
    let stock = c.self.invariant.stock ∙
    stock_refused c.self.inside.house c.self.inside.log.lines c.args.caller c.args.stay c.book_reply-reply.result refused in
    rw c.add-else-is_accepted.ensures
    (in_step_more _ _ _ _ _ _ _ _ _ _ _ _ c.self.invariant
    (book_is_legal _ _ c.args.caller c.args.stay _ c.self.invariant.legal may.caller_may may.in_range may.not_full fresh reply) log
    (book_follows _ _ _ _ _ _ _ c.args.caller c.args.stay _ _ _ c.self.invariant small within value refl (ap (λ b. fate_by b false) (sym refused)) stock))
