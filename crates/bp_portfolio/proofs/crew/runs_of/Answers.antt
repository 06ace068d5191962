use Rattle.std.proofs.Common.{◌∙◌, ap, sym, subst, List, [], ◌∷◌, ◌++◌, Some}
use Rattle.bp_desk_run.specs.declared.callers.Ran.{Ran}
use Rattle.bp_portfolio.specs.Sites.{AreRunsOf}
use Rattle.bp_portfolio.proofs.Crews.{one_more_run}
use Rattle.bp_portfolio.proofs.crew.runs_of.Goals as goal

pub loop-site-preserved-in_ok-push : goal.loop-site-preserved-in_ok-push
loop-site-preserved-in_ok-push c =
    let P : List Ran → Type 0 = λ rs. AreRunsOf (c.loop-site.yielded ++ c.in-Some.site ∷ []) rs in
    subst P (sym c.in_ok-push.ensures.items)
    (one_more_run c.loop-site.yielded c.loop-site.runs.items c.in-Some.site c.in_ok-outcome.field-0 c.loop-site.invariant (c.in-Some-outcome.is ∙
    ap Some c.in_ok-outcome.was))

pub loop-site-preserved : goal.loop-site-preserved
loop-site-preserved c =
    let P : List Ran → Type 0 = λ rs. AreRunsOf (c.loop-site.yielded ++ c.in-Some.site ∷ []) rs in
    subst P (sym c.in_ok-push.ensures.items)
    (one_more_run c.loop-site.yielded c.loop-site.runs.items c.in-Some.site c.in_ok-outcome.field-0 c.loop-site.invariant (c.in-Some-outcome.is ∙
    ap Some c.in_ok-outcome.was))
