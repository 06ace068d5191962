use Rattle.std.proofs.Common.{rules, arith, ◌≡◌, ◌+◌, ◌∙◌, sym, subst, drop}
use Rattle.bp_types.specs.Program.{Program}
use Rattle.bp_scenarios.proofs.RoomLemmas.{IsOnWay, fits, still_within, fit_in_turn, none_refused, one_further}
use Rattle.bp_scenarios.proofs.refused.first_refused.Goals as goal

pub breaks_limit-requires : goal.breaks_limit-requires
breaks_limit-requires c =
    let on = c.loop-change.invariant.1 in
    still_within _ _ _ on.nights on.stays (c.requires.each _ _ c.loop-change-test.true)

pub apply-requires : goal.apply-requires
apply-requires c =
    let on = c.loop-change.invariant.1 in
    fits _ _ (still_within _ _ _ on.nights on.stays (c.requires.each _ _ c.loop-change-test.true)) (sym c.breaks_limit.ensures ∙ c.if-breaks_limit.false)

pub returns-clause-fit : goal.returns-clause-fit
returns-clause-fit c none =
    let on = c.loop-change.invariant.1 in
    fit_in_turn 1 c.args.instance.now _ _ c.requires.each (search rules) (search rules) (sym on.same ∙
    none_refused c.loop-change.number c.loop-change.instance c.args.changes.now c.loop-change.change-index (omega (arith, c.loop-change-test.false)))

pub loop-change-preserved : goal.loop-change-preserved
loop-change-preserved c =
    let on = c.loop-change.invariant in
    let P : Program → Type 0 =
    λ q. IsOnWay c.args.instance.now c.args.changes.now (c.loop-change.number + 1) q (drop (c.loop-change.change-index + 1) c.args.changes.now) in (
      omega (arith, on.0),
      subst P (sym c.apply.ensures.changed) (one_further _ _ _ _ _ _ c.loop-change-test.true (sym c.breaks_limit.ensures ∙
          c.if-breaks_limit.false) on.1),
    )
