use Rattle.std.proofs.Common.{◌∙◌, ap}
use Rattle.bp_types.specs.declared.change.Change.TheVariants.{Rate}
use Rattle.bp_types.specs.Program.{Program}
use Rattle.bp_types.specs.Changes.{changed}
use Rattle.bp_residual.proofs.SetTo.{terms_set}
use Rattle.bp_residual.proofs.alike.set_terms.Goals as goal

pub returns-clause-stays : goal.returns-clause-stays
returns-clause-stays c =
    ap (λ (p : Program). p.stays) c.apply-2.ensures.changed
    ∙ ap (λ (p : Program). (changed p (Rate c.args.stay c.args.terms.rate)).stays) c.apply.ensures.changed
    ∙ terms_set c.args.instance.now c.args.stay c.args.terms c.requires.stay c.requires.span
