use Rattle.std.proofs.Common.{ℕ, ◌∙◌, subst}
use Rattle.bp_paths.specs.Paths.{AreDistancesTo}
use Rattle.bp_paths.proofs.Answer.{are_distances_to}
use Rattle.bp_paths.proofs.searches.search_to.Goals as goal

pub returns-clause-distances : goal.returns-clause-distances
returns-clause-distances g c =
    let P : ℕ → Type 0 = λ v. AreDistancesTo c.args.flow.now v c.close_all.new.self.kept.items in
    subst P (c.close_all.ensures.from ∙
    c.begin.ensures.from) (are_distances_to c.args.flow.now _ _ _ _ _ c.nights-nights.ensures.priced.limits c.close_all.ensures.labels
    c.close_all.ensures.done)
