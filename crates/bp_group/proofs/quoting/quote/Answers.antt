use Rattle.std.proofs.Common.{◌≡◌, ℕ, ◌-◌, ap, subst, arith, rules, None, slice_index}
use Rattle.bp_types.specs.Claim.{Claim}
use Rattle.bp_types.specs.Program.{Program}
use Rattle.bp_types.specs.Spans.{first_short}
use Rattle.bp_types.specs.Changes.{HasUnits}
use Rattle.bp_types.specs.Displacement.{IsDisplacement}
use Rattle.bp_group.proofs.Short.{each_has_units}
use Rattle.bp_group.proofs.quoting.quote.Goals as goal

pub optimum_without-requires-clause-units : goal.optimum_without-requires-clause-units
optimum_without-requires-clause-units g c =
    let none : first_short (slice_index c.args.solver.now.flow.program.rooms) c.args.span c.args.rooms ≡ None = search rules in
    each_has_units c.args.solver.now.flow.program c.args.span c.args.rooms c.requires.span none

pub overflow_sub-displacement : goal.overflow_sub-displacement
overflow_sub-displacement g c =
    let p : Program = c.args.solver.now.flow.program in
    let none : first_short (slice_index p.rooms) c.args.span c.args.rooms ≡ None = search rules in
    let has : HasUnits p c.args.span c.args.rooms = each_has_units p c.args.span c.args.rooms c.requires.span none in
    let tells = c.certificates_tell_displacement.ensures p c.args.span c.args.rooms c.in_ok-before.before c.in_ok-after.after c.requires.span has
    c.in_ok-before.ensures.certifies c.in_ok-after.ensures.least.certifies in
    omega (arith, tells.0, ap (λ (k : Claim). k.value) c.before-2.view_is, ap (λ (k : Claim). k.value) c.after.view_is)

pub returns-clause-displacement : goal.returns-clause-displacement
returns-clause-displacement g c =
    let p : Program = c.args.solver.now.flow.program in
    let was : Claim = c.in_ok-before.before in
    let is : Claim = c.in_ok-after.after in
    let none : first_short (slice_index p.rooms) c.args.span c.args.rooms ≡ None = search rules in
    let has : HasUnits p c.args.span c.args.rooms = each_has_units p c.args.span c.args.rooms c.requires.span none in
    let tells = c.certificates_tell_displacement.ensures p c.args.span c.args.rooms was is c.requires.span has c.in_ok-before.ensures.certifies
    c.in_ok-after.ensures.least.certifies in
    let same : was.value - is.value ≡ c.before-2.inside.value - c.after.inside.value =
    omega (arith, ap (λ (k : Claim). k.value) c.before-2.view_is, ap (λ (k : Claim). k.value) c.after.view_is) in
    let D : ℕ → Type 0 = λ cost. IsDisplacement p c.args.span c.args.rooms cost in
    subst D same tells.1
