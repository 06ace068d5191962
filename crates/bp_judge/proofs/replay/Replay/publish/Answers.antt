use Rattle.std.proofs.Common.{◌∙◌, ap, sym, subst, arith}
use Rattle.bp_types.specs.House.{Inn}
use Rattle.bp_types.specs.declared.command.Limits.{Limits}
use Rattle.bp_core.specs.Changes.{changes_between}
use Rattle.bp_core.specs.Lines.{last_position}
use Rattle.bp_core.specs.Instance.{instance_at}
use Rattle.std.specs.Prelude.{Option}
use Rattle.std.specs.Arc.{arc_value}
use Rattle.std.specs.declared.sync.Arc.{Arc}
use Rattle.std.specs.declared.alloc.Global.{Global}
use Rattle.std.proofs.lemmas.Bool.{MatchBool-at_true, MatchBool-at_false}
use Rattle.bp_board.specs.declared.board.Board.{Board}
use Rattle.bp_judge.specs.Certified.{IsBoardFor}
use Rattle.bp_judge.proofs.Firsts.{certificate_after, reply_after}
use Rattle.bp_judge.proofs.Vectors.{late_vector, old_vector, vector_rules, not_certified, is_certified, not_number, vector_logged, published}
use Rattle.bp_judge.proofs.replay.Replay.publish.Goals as goal

pub returns-then-position-length : goal.returns-then-position-length
returns-then-position-length c =
    let limits = ap (λ (l : Limits). l.publications) (c.limits.ensures.value ∙ ap (λ (h : Inn). h.limits) c.house.ensures) in
    late_vector c.args.self.now.book.house c.args.self.now.book.history c.args.line c.args.position c.requires.replay.legal c.requires.act c.requires.caller
    (λ e. c.if-number-limits.false (c.vectors-number.ensures ∙ e ∙ sym limits)) (omega (arith, c.if-position-length.true, c.length.ensures.value))

pub returns-then-changes_up_to-eq0 : goal.returns-then-changes_up_to-eq0
returns-then-changes_up_to-eq0 c =
    let limits = ap (λ (l : Limits). l.publications) (c.limits.ensures.value ∙ ap (λ (h : Inn). h.limits) c.house.ensures) in
    let H = c.args.self.now.book.history in
    let last = c.position-last.ensures.value ∙ c.last_board.ensures.position in
    old_vector c.args.self.now.book.house H c.args.line c.args.position c.requires.replay.legal c.requires.act c.requires.caller
    (λ e. c.if-number-limits.false (c.vectors-number.ensures ∙ e ∙ sym limits))
    (ap (λ k. changes_between H k c.args.position) (sym last) ∙ sym c.changes_up_to.ensures ∙ c.if-changes_up_to-eq0.true)

pub returns-in_default : goal.returns-in_default
returns-in_default c =
    let limits = ap (λ (l : Limits). l.publications) (c.limits.ensures.value ∙ ap (λ (h : Inn). h.limits) c.house.ensures) in
    let h = c.args.self.now.book.house in
    let H = c.args.self.now.book.history in
    let x = c.args.line in
    let last = c.position-last.ensures.value ∙ c.last_board.ensures.position in
    let rules = vector_rules h H x c.args.position c.requires.replay.legal c.requires.act c.requires.caller
    (λ e. c.if-number-limits.false (c.vectors-number.ensures ∙ e ∙ sym limits)) (omega (arith, c.if-position-length.false, c.length.ensures.value))
    (λ e. c.if-changes_up_to-eq0.false (c.changes_up_to.ensures ∙ ap (λ k. changes_between H k c.args.position) last ∙ e)) in
    let program = c.advance.ensures.is.program ∙ ap (instance_at h H) c.advance.ensures.position in
    let P : Option (Arc Board Global) → Type 0 = λ o. IsBoardFor c.advance.new.self.instance c.args.position x.certificate o in
    certificate_after h H x rules
    (not_certified h H x c.args.position c.advance.new.self.instance c.requires.act program (subst P c.in_default.is c.in_ok-board.ensures))

pub returns-then-not-is_vector : goal.returns-then-not-is_vector
returns-then-not-is_vector c =
    let limits = ap (λ (l : Limits). l.publications) (c.limits.ensures.value ∙ ap (λ (h : Inn). h.limits) c.house.ensures) in
    let h = c.args.self.now.book.house in
    let H = c.args.self.now.book.history in
    let x = c.args.line in
    let last = c.position-last.ensures.value ∙ c.last_board.ensures.position in
    let rules = vector_rules h H x c.args.position c.requires.replay.legal c.requires.act c.requires.caller
    (λ e. c.if-number-limits.false (c.vectors-number.ensures ∙ e ∙ sym limits)) (omega (arith, c.if-position-length.false, c.length.ensures.value))
    (λ e. c.if-changes_up_to-eq0.false (c.changes_up_to.ensures ∙ ap (λ k. changes_between H k c.args.position) last ∙ e)) in
    let program = c.advance.ensures.is.program ∙ ap (instance_at h H) c.advance.ensures.position in
    let P : Option (Arc Board Global) → Type 0 = λ o. IsBoardFor c.advance.new.self.instance c.args.position x.certificate o in
    let board = subst P c.in-Some.is c.in_ok-board.ensures in
    let certified = is_certified h H x c.args.position c.advance.new.self.instance
    (arc_value c.in-Some.board).certificate c.requires.act program board.0 board.1 in
    reply_after h H x rules certified
    (not_number h H x c.args.position c.vectors-number.result c.requires.act c.vectors-number.ensures
    (MatchBool-at_false _ _ c.if-not-is_vector.true c.is_vector.ensures))

pub returns : goal.returns
returns c =
    let limits = ap (λ (l : Limits). l.publications) (c.limits.ensures.value ∙ ap (λ (h : Inn). h.limits) c.house.ensures) in
    let h = c.args.self.now.book.house in
    let H = c.args.self.now.book.history in
    let x = c.args.line in
    let last = c.position-last.ensures.value ∙ c.last_board.ensures.position in
    let P : Option (Arc Board Global) → Type 0 = λ o. IsBoardFor c.advance.new.self.instance c.args.position x.certificate o in
    let board = subst P c.in-Some.is c.in_ok-board.ensures in
    let logged = vector_logged c.args.self.now.book c.act.new.self x.entry.caller c.in-Some.board c.act.result c.act.ensures.answered
    (λ e. c.if-changes_up_to-eq0.false (c.changes_up_to.ensures ∙ ap (λ k. changes_between H k c.args.position) last ∙
    ap (changes_between H (last_position H)) (sym board.2) ∙ e))
    (λ e. c.if-number-limits.false (c.vectors-number.ensures ∙ e ∙ sym limits)) in
    published c.args.self.now c.act.new.self c.advance.new.self x c.in-Some.board c.args.position c.vectors-number.result c.act.result c.requires.replay
    c.advance.ensures.is c.advance.ensures.position logged c.act.ensures.legal c.requires.act board.2 board.0 c.vectors-number.ensures
    (MatchBool-at_true _ _ c.if-not-is_vector.false c.is_vector.ensures)
