use Rattle.std.proofs.Common.{subst}
use Rattle.bp_residual.specs.Network.{Priced}
use Rattle.bp_residual.specs.Index.{AreHopsAt}
use Rattle.bp_residual.proofs.Ends.{hops_by_ends}
use Rattle.bp_residual.proofs.flow.Flow.hops_at.Goals as goal

pub returns : goal.returns
returns c =
    let P : Priced → Type 0 = λ p. AreHopsAt p.flow.program c.args.node c.hops_at.result.now in
    subst P c.self.view_is (hops_by_ends _ _ c.args.node _ c.self.invariant.1 c.hops_at.ensures)
