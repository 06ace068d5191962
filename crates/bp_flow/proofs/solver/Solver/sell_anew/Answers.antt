use Rattle.std.proofs.Common.{◌≡◌, ℕ, ap, ◌∙◌}
use Rattle.bp_types.specs.declared.stay.Stay.{Stay}
use Rattle.bp_types.specs.declared.change.Change.TheVariants.{Demand, Rate}
use Rattle.bp_types.specs.Program.{Program, stay_at}
use Rattle.bp_types.specs.Changes.{changed}
use Rattle.bp_flow.specs.Solving.{Solving}
use Rattle.bp_flow.proofs.Rates.{repriced}
use Rattle.bp_flow.proofs.solver.Solver.sell_anew.Goals as goal

pub returns-clause-program : goal.returns-clause-program
returns-clause-program g c =
    let p : Program = c.args.self.now.flow.program in
    let j = c.args.stay in
    let unasked : Program = changed p (Demand j 0) in
    let rated : Program = changed unasked (Rate j c.args.value) in
    let forecast : c.stay-forecast.result.forecast ≡ (stay_at p j).forecast = ap (λ (s : Stay). s.forecast) c.stay-forecast.ensures.value ∙
    ap (λ (x : Solving). (stay_at x.flow.program j).forecast) c.self.view_is in
    let two : c.set_rate.new.self.flow.program ≡ rated = c.set_rate.ensures.program ∙
    ap (λ (q : Program). changed q (Rate j c.args.value)) c.demand.ensures.program in
    c.demand-2.ensures.program ∙ ap (λ (q : Program). changed q (Demand j c.stay-forecast.result.forecast)) two ∙
    ap (λ (f : ℕ). changed rated (Demand j f)) forecast ∙ repriced p j c.args.value c.requires.0
