use Rattle.std.proofs.Common.{◌*◌, ◌∙◌, ap, sym, subst, length}
use Rattle.bp_types.specs.House.{Inn}
use Rattle.bp_types.specs.declared.command.Limits.{Limits}
use Rattle.bp_types.specs.Program.{Program}
use Rattle.bp_types.specs.Spans.{IsSpanWithin}
use Rattle.bp_judge.proofs.Rooms.{span_now, now_of, short_absurd}
use Rattle.bp_judge.proofs.trail.Trail.quote.Goals as goal

pub quote-requires-clause-span : goal.quote-requires-clause-span
quote-requires-clause-span g c =
    let s = c.in_ok-solved.ensures in
    let program = now_of c.args.book.now.house c.args.book.now.history c.in_ok-solved.solved.course.position c.in_ok-solved.solved.solver.flow.program
    s.newest (s.solved.program ∙ s.solved.course.program) in
    let P : Program → Type 0 = λ p. IsSpanWithin (length p.rooms) c.args.span in
    subst P (sym program) (span_now c.args.book.now.house c.args.book.now.history c.args.span c.requires.span)

pub unreachable-requires : goal.unreachable-requires
unreachable-requires g c =
    let s = c.in_ok-solved.ensures in
    let program = now_of c.args.book.now.house c.args.book.now.history c.in_ok-solved.solved.course.position c.in_ok-solved.solved.solver.flow.program
    s.newest (s.solved.program ∙ s.solved.course.program) in
    let short = c.in-Err-NoRoom.ensures in
    short_absurd c.args.book.now.house c.args.book.now.history c.args.span c.args.rooms _ _ _ _ c.requires.span c.requires.room program
    (ap (λ u. u * c.args.rooms) (ap (λ (l : Limits). l.unit) (c.limits.ensures.value ∙ ap (λ (h : Inn). h.limits) c.house.ensures)))
    c.in-Err-NoRoom.field-0-is short.no_room
