-- An optimiser goes with a pass that has seen more.
use Rattle.std.proofs.Common.{◌≡◌, sym, ap, ◌∙◌, arith}
use Rattle.bp_turn.specs.Prefix.{IsPrefix}
use Rattle.bp_types.specs.House.{Inn}
use Rattle.bp_core.specs.Lines.{History}
use Rattle.bp_core.specs.Instance.{instance_at}
use Rattle.bp_core.proofs.Growing.{instance_before_lines, instance_stays}
use Rattle.bp_optimise.specs.Following.{Optimising, GoesWith}
use Rattle.bp_optimise.specs.Laws.{NewGoes}
use Rattle.bp_optimise.proofs.Leading.{prefix_le}

pub new_goes : NewGoes
new_goes house seen solver is = record { within = omega arith; program = is ∙ sym (instance_before_lines house seen) }

pub goes_later : (h k : Inn) (G H : History) (o : Optimising) → k ≡ h → IsPrefix G H → GoesWith h G o → GoesWith k H o
goes_later h k G H o same grows g =
    let le = prefix_le G H grows in
    let w = g.within in
    record {
      within = omega (arith, le, w);
      program = g.program ∙ sym (ap (λ i. instance_at i H o.position) same ∙ instance_stays h G H o.position grows g.within);
    }
