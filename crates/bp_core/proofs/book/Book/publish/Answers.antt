use Rattle.std.proofs.Common.{◌≡◌, ◌∙◌, ◌≤◌, ap, sym, subst, arith}
use Rattle.std.specs.Arc.{arc_value}
use Rattle.bp_types.specs.declared.command.Limits.{Limits}
use Rattle.bp_board.specs.Posted.{Posted}
use Rattle.bp_core.specs.declared.call.Call.TheVariants.{Publish}
use Rattle.bp_core.specs.Acting.{Diary, MayCall}
use Rattle.bp_core.specs.Lines.{vectors, last_position}
use Rattle.bp_core.specs.Changes.{changes_between}
use Rattle.bp_core.proofs.Counts.{has_room}
use Rattle.bp_core.proofs.InStepMore.{in_step_more}
use Rattle.bp_core.proofs.Publishing.{publish_is_legal, publish_follows, vectors_left}
use Rattle.bp_core.proofs.book.Book.publish.Goals as goal

pub post-number-requires-clause-room : goal.post-number-requires-clause-room
post-number-requires-clause-room c =
    omega (arith, has_room _ _ c.self.invariant.legal, c.self.invariant.line_room)

pub post-number-requires-clause-board_room : goal.post-number-requires-clause-board_room
post-number-requires-clause-board_room c =
    let not_full : (vectors c.self.inside.log.lines ≡ c.self.inside.house.limits.publications) →
    ⊥ = λ e. c.if-vectors-limits.false (c.vectors.ensures ∙ e ∙ sym (ap (λ (l : Limits). l.publications) c.limits.ensures.value)) in
    omega (arith, vectors_left _ _ c.self.invariant.legal not_full, c.self.invariant.board_room)

pub invariant_of-self : goal.invariant_of-self
invariant_of-self c =
    let H = c.self.inside.log.lines in
    let may = let P : Diary → Type 0 = λ b. MayCall b c.args.caller (Publish c.args.board c.args.least) in subst P (sym c.self.view_is) c.requires in
    let not_full : (vectors c.self.inside.log.lines ≡ c.self.inside.house.limits.publications) →
    ⊥ = λ e. c.if-vectors-limits.false (c.vectors.ensures ∙ e ∙ sym (ap (λ (l : Limits). l.publications) c.limits.ensures.value)) in
    let from : c.position-position.result ≡ last_position c.self.inside.log.lines = c.position-position.ensures.value ∙ c.last_board.ensures.position ∙
    ap (λ (b : Diary). last_position b.history) (sym c.self.view_is) in
    let until : c.position.result ≡ (arc_value c.args.board).position = c.position.ensures.value ∙ ap (λ (b : Posted). b.position) c.deref.ensures in
    let changes = c.changes_up_to-changes.ensures ∙
    ap (λ (b : Diary). changes_between b.history c.position-position.result c.position.result) (sym c.self.view_is) ∙
    ap (λ n. changes_between H n c.position.result) from ∙ ap (changes_between H (last_position H)) until in
    let newer : 1 ≤ changes_between c.self.inside.log.lines (last_position c.self.inside.log.lines) (arc_value c.args.board).position =
    omega (arith, changes, c.if-changes-least.false, may.is_right.2) in
    in_step_more _ _ _ _ _ _ _ _ _ _ _ _ c.self.invariant
    (publish_is_legal _ _ c.args.caller (arc_value c.args.board) c.self.invariant.legal may.caller_may may.is_right.0 may.is_right.1 newer not_full)
    c.post-number.ensures.posted (publish_follows _ _ _ _ _ _ c.args.caller (arc_value c.args.board) c.self.invariant)
