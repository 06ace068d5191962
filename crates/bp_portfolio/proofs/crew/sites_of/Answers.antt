use Rattle.std.proofs.Common.{refl, sym, subst, arith, List, [], ◌∷◌, ◌++◌, length-append}
use Rattle.bp_portfolio.specs.Sites.{AreToRun}
use Rattle.bp_portfolio.specs.declared.crew.DeskSite.{DeskSite}
use Rattle.bp_portfolio.proofs.Crews.{one_more_to_run}
use Rattle.bp_portfolio.proofs.crew.sites_of.Goals as goal

pub loop-staged-preserved : goal.loop-staged-preserved
loop-staged-preserved c =
    let so_far = c.loop-staged.invariant in
    let P : List DeskSite → Type 0 = λ ss. AreToRun c.args.workers (c.loop-staged.yielded ++ c.in-Some.staged ∷ []) ss in
    record {
      sites = subst P (sym c.in_ok-push.ensures.items)
          (one_more_to_run c.args.workers c.loop-staged.yielded c.loop-staged.sites.items c.in-Some.staged _ so_far.sites refl refl);
      counted = omega (arith, so_far.counted, length-append c.loop-staged.yielded (c.in-Some.staged ∷ []));
    }
