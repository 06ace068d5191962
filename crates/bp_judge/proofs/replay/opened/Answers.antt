use Rattle.std.proofs.Common.{◌∙◌, sym, ap, subst, refl, [], ◌∷◌, Option}
use Rattle.std.specs.Arc.{arc_value}
use Rattle.std.specs.declared.sync.Arc.{Arc}
use Rattle.std.specs.declared.alloc.Global.{Global}
use Rattle.std.proofs.lemmas.Bool.{MatchBool-at_true, MatchBool-at_false}
use Rattle.bp_types.specs.House.{Inn, IsHouse}
use Rattle.bp_board.specs.declared.board.Board.{Board}
use Rattle.bp_core.specs.Acting.{Diary}
use Rattle.bp_core.specs.Legal.{IsLegal}
use Rattle.bp_core.specs.declared.line.Line.{Line}
use Rattle.bp_judge.specs.Certified.{IsBoardFor}
use Rattle.bp_judge.proofs.Firsts.{certificate_after, reply_after}
use Rattle.bp_judge.proofs.Vectors.{opener, opening_rules, start, not_certified, is_certified, not_number, same_opening, opened_replay}
use Rattle.bp_judge.proofs.replay.opened.Goals as goal

pub returns-in_default : goal.returns-in_default
returns-in_default c =
    let h = c.args.house in
    let x = c.args.line in
    let opens = sym c.opens.ensures ∙ c.if-not-opens.false in
    let house = let P : Inn → Type 0 = λ i. IsHouse i in subst P c.house.view_is c.house.invariant in
    let program = start c.instance_at_start.ensures h c.in_ok-instance.instance c.in_ok-instance.ensures in
    let P : Option (Arc Board Global) → Type 0 = λ o. IsBoardFor c.in_ok-instance.instance 0 x.certificate o in
    certificate_after h [] x (opening_rules h x house opens)
    (not_certified h [] x 0 c.in_ok-instance.instance (opener x opens).1 program (subst P c.in_default.is c.in_ok-board.ensures))

pub returns-then-not-is_vector : goal.returns-then-not-is_vector
returns-then-not-is_vector c =
    let h = c.args.house in
    let x = c.args.line in
    let opens = sym c.opens.ensures ∙ c.if-not-opens.false in
    let house = let P : Inn → Type 0 = λ i. IsHouse i in subst P c.house.view_is c.house.invariant in
    let program = start c.instance_at_start.ensures h c.in_ok-instance.instance c.in_ok-instance.ensures in
    let P : Option (Arc Board Global) → Type 0 = λ o. IsBoardFor c.in_ok-instance.instance 0 x.certificate o in
    let board = subst P c.in-Some.is c.in_ok-board.ensures in
    let certified = is_certified h [] x 0 c.in_ok-instance.instance (arc_value c.in-Some.board).certificate (opener x opens).1 program board.0 board.1 in
    reply_after h [] x (opening_rules h x house opens) certified
    (not_number h [] x 0 0 (opener x opens).1 refl (MatchBool-at_false _ _ c.if-not-is_vector.true c.is_vector.ensures))

pub returns : goal.returns
returns c =
    let h = c.args.house in
    let x = c.args.line in
    let opens = sym c.opens.ensures ∙ c.if-not-opens.false in
    let P : Option (Arc Board Global) → Type 0 = λ o. IsBoardFor c.in_ok-instance.instance 0 x.certificate o in
    let board = subst P c.in-Some.is c.in_ok-board.ensures in
    let same = same_opening x (arc_value c.in-Some.board) opens board.2 board.0 (MatchBool-at_true _ _ c.if-not-is_vector.false c.is_vector.ensures) in
    let book = c.in_ok-book.ensures ∙ ap (λ (y : Line). record { house = h; history = y ∷ [] }) same in
    let legal = let L : Diary → Type 0 = λ d. IsLegal d.house d.history in subst L c.book.view_is c.book.invariant.legal in (
      opened_replay c.instance_at_start.ensures h c.in_ok-book.book x c.in_ok-course.course c.in_ok-instance.instance book legal opens c.in_ok-instance.ensures
          c.in_ok-course.ensures.instance c.in_ok-course.ensures.position c.in_ok-course.ensures.room,
      book,
    )
