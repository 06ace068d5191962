use Rattle.std.proofs.Common.{rules, ◌≡◌, ◌∙◌, ◌+◌, ◌-◌, ◌*◌, ◌≤◌, ap, sym, subst, arith, length, ℕ}
use Rattle.std.proofs.Math.Seq.{take-length}
use Rattle.bp_types.specs.Changes.{HasUnits}
use Rattle.bp_types.specs.Claim.{IsCertificateOf}
use Rattle.bp_types.specs.Displacement.{IsDisplacement, without}
use Rattle.bp_types.specs.Program.{Program}
use Rattle.bp_types.specs.Spans.{IsSpanWithin}
use Rattle.bp_core.specs.Acting.{Diary}
use Rattle.bp_core.specs.Instance.{instance_at, instance_of}
use Rattle.bp_core_tests.proofs.desk.Desk.quote.Goals as goal

pub returns-in-Some-checked_sub : goal.returns-in-Some-checked_sub
returns-in-Some-checked_sub c =
    let b = c.args.self.now in
    let p = c.in_ok-instance.instance in
    let now : c.length.result ≡ length b.history = c.length.ensures.value ∙ ap (λ (d : Diary). length d.history) c.self.view_is in
    let at : p ≡ instance_at b.house b.history (length b.history) = c.in_ok-instance.ensures ∙ ap (instance_of b.house) (sym (take-length b.history)) in
    let unit : c.in-Some.units ≡ b.house.limits.unit * c.args.rooms = search rules in
    let within : IsSpanWithin (length p.rooms) c.args.span = (search rules, search rules) in
    let has : HasUnits p c.args.span c.in-Some.units = search rules in
    let fewer = let P : Program → Type 0 = λ q. IsCertificateOf q c.in_ok-last.last in subst P c.in_ok-fewer.ensures c.in_ok-last.ensures in
    let tells = (c.certificates_tell_displacement.ensures p c.args.span c.in-Some.units c.in_ok-first.first c.in_ok-last.last within has c.in_ok-first.ensures
    fewer).1 in
    let difference : c.in_ok-first.first.value ≡ c.in-Some-checked_sub.displacement + c.in_ok-last.last.value = search rules in
    let same : c.in_ok-first.first.value - c.in_ok-last.last.value ≡ c.in-Some-checked_sub.displacement = omega (arith, difference) in
    let d = c.in-Some-checked_sub.displacement in
    let S : ℕ → Type 0 = λ v. IsDisplacement p c.args.span c.in-Some.units v in
    let P : Program → Type 0 = λ q. IsDisplacement q c.args.span c.in-Some.units d in
    let Q : ℕ → Type 0 = λ u. IsDisplacement (instance_at b.house b.history (length b.history)) c.args.span u d in
    let R : ℕ → Type 0 = λ n. IsDisplacement (instance_at b.house b.history n) c.args.span (b.house.limits.unit * c.args.rooms) d in
    (omega (arith, now), subst R (sym now) (subst Q unit (subst P at (subst S same tells))))
