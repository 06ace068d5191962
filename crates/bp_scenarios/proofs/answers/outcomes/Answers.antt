use Rattle.std.proofs.Common.{◌≡◌, ◌∙◌, ap, subst, sym}
use Rattle.std.specs.List.{AllZip}
use Rattle.rayon.proofs.ListFacts.{AllZip-weaken}
use Rattle.bp_scenarios.specs.Outcomes.{IsOutcome}
use Rattle.bp_scenarios.proofs.Collected.{all_ok, where_ok}
use Rattle.bp_scenarios.proofs.answers.outcomes.Goals as goal

pub returns : goal.returns
returns g c =
    let chain = rw (c.map_init.ensures.f) at c.in_ok-all.ensures in
    let gives = chain.1 in
    let R = IsOutcome c.args.base.now in
    let listed : c.map_init.result.base.base.slice.now ≡ c.args.lists.now = ap (λ m. m.base.slice.now) c.map_init.ensures.base ∙
    ap (λ m. m.slice.now) c.with_min_len.ensures.base ∙ c.par_iter.ensures in
    where_ok c.in_ok-all.all _ _ _ chain.2 (λ v h.
    -- whatever the state was before and after it, a call answers its list
    let each = AllZip-weaken _ _ (λ z r made. made.2) gives.0 chain.0 gives.2 in
    subst (AllZip R c.args.lists.now) (sym h.2) (all_ok R c.args.lists.now gives.0 chain.0 h.0 (gives.1 ∙ listed) each h.1))
