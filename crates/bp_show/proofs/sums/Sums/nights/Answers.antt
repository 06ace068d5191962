use Rattle.std.proofs.Common.{length, sym, ap, ◌∙◌}
use Rattle.bp_show.specs.Vectors.{Vector}
use Rattle.bp_show.proofs.Falls.{falls_length}
use Rattle.bp_show.proofs.sums.Sums.nights.Goals as goal

pub returns-clause-number : goal.returns-clause-number
returns-clause-number c = sym (falls_length _ _) ∙ ap (λ (v : Vector). length v.prices) c.self.view_is
