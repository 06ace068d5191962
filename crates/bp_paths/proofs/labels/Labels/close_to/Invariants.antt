use Rattle.std.proofs.Common.{◌≡◌, ℕ, ◌-◌, [], false}
use Rattle.bp_residual.specs.Network.{nodes}
use Rattle.bp_paths.specs.Labels.{AreLabels}
use Rattle.bp_paths.proofs.labels.Labels.close_to.Given as goal

abbrev pub invariant-loop-self : goal.invariant-loop-self
invariant-loop-self l =
    ((x : ℕ) × AreLabels false l.flow l.self.from l.self.count x l.at [] l.self.kept.items l.self.rank.items l.self.via.items)
    × (l.self.from ≡ l.fn.self.from)

abbrev pub decreases-loop-self : goal.decreases-loop-self
decreases-loop-self l = nodes l.flow - l.self.count
