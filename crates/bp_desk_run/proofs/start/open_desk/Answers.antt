use Rattle.std.proofs.Common.{rules, refl, ◌≡◌, ap, sym, subst, ◌∙◌}
use Rattle.std.specs.Arc.{arc_value}
use Rattle.bp_board.specs.Posted.{Posted}
use Rattle.bp_types.specs.Optimum.{AreLeastPrices}
use Rattle.bp_core.specs.Acting.{opening_line}
use Rattle.bp_desk_run.proofs.Starting.{ok_weaker, opens_with}
use Rattle.bp_desk_run.proofs.start.open_desk.Goals as goal

pub returns : goal.returns
returns c =
    let b = arc_value c.in-Ok.board in
    let is : b ≡ record { position = 0; certificate = c.in_ok-certificate.certificate } = search rules in
    let least : AreLeastPrices c.args.solver.now.flow.program b.certificate.prices =
    subst (λ (p : Posted). AreLeastPrices c.args.solver.now.flow.program p.certificate.prices) (sym is)
    (c.in_ok-certificate.ensures.least c.requires.solver.1).least in
    ok_weaker _ _ c.new-3.result
    (λ r e. (opening_line b, opens_with c.args.house b c.args.solver.now.flow.program (ap (λ (p : Posted). p.position) is) c.requires.solver.0 least, e))
    c.new-3.ensures
