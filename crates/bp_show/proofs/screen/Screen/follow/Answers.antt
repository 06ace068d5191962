use Rattle.std.proofs.Common.{◌++◌, [], ◌∷◌, length, arith, ap, sym, subst, ◌∙◌, refl}
use Rattle.bp_show.specs.Vectors.{Vector, newest_of}
use Rattle.bp_show.specs.Shown.{number_shown}
use Rattle.bp_show.specs.Histories.{AreVectorsIn}
use Rattle.bp_show.specs.Screens.{Display}
use Rattle.bp_show.proofs.Lists.{ends_number}
use Rattle.bp_show.proofs.InHistories.{newest_nights, newest_is_there, vectors_more}
use Rattle.bp_show.proofs.screen.Screen.follow.Goals as goal

pub returns-then-newest-last-clause-shown : goal.returns-then-newest-last-clause-shown
returns-then-newest-last-clause-shown g c =
    let last = c.number-last.ensures ∙ sym (ends_number _ _ c.shown-shown.ensures.last) ∙ ap (λ (d : Display). number_shown d.seen) c.self.view_is in
    let le = c.if-newest-last.true in
    (omega (arith, last, le, c.quote-newest.ensures.number), last, refl)

pub show-requires-clause-nights : goal.show-requires-clause-nights
show-requires-clause-nights g c = ap (λ (v : Vector). length v.prices) c.of_pass.ensures ∙ newest_nights _ _ c.facts.ensures.legal ∙ c.requires ∙
    sym (ap (λ (d : Display). d.nights) c.self.view_is)

pub show-requires-clause-newer : goal.show-requires-clause-newer
show-requires-clause-newer g c =
    let last = c.number-last.ensures ∙ sym (ends_number _ _ c.shown-shown.ensures.last) in
    let gt = c.if-newest-last.false in
    omega (arith, last, gt, c.quote-newest.ensures.number, ap (λ (v : Vector). v.number) c.of_pass.ensures)

pub returns-in_err-show-clause-kept : goal.returns-in_err-show-clause-kept
returns-in_err-show-clause-kept g c = λ are.
    subst (AreVectorsIn c.args.pass.now.seen) (sym (c.in_err-show.ensures.shown ∙ ap (λ (d : Display). d.seen) c.self.view_is)) are

pub returns-clause-shown : goal.returns-clause-shown
returns-clause-shown g c =
    let last = c.number-last.ensures ∙ sym (ends_number _ _ c.shown-shown.ensures.last) ∙ ap (λ (d : Display). number_shown d.seen) c.self.view_is in
    let gt = c.if-newest-last.false in (
      omega (arith, last, gt, c.quote-newest.ensures.number),
      c.quote-newest.ensures.number,
      c.in_ok-show.ensures.shown ∙ ap (λ (v : Vector). c.self.inside.stage.seen ++ v ∷ []) c.of_pass.ensures ∙
          ap (λ (d : Display). d.seen ++ newest_of c.args.pass.now.seen ∷ []) c.self.view_is,
    )

pub returns-clause-kept : goal.returns-clause-kept
returns-clause-kept g c = λ are.
    vectors_more c.args.pass.now.seen c.args.self.now.seen _ (newest_of c.args.pass.now.seen) (newest_is_there _ _ c.facts.ensures.legal)
    (c.in_ok-show.ensures.shown ∙ ap (λ (v : Vector). c.self.inside.stage.seen ++ v ∷ []) c.of_pass.ensures ∙
    ap (λ (d : Display). d.seen ++ newest_of c.args.pass.now.seen ∷ []) c.self.view_is) are
