use Rattle.std.proofs.Common.{rules, ◌≡◌, ◌≢◌, ◌<◌, [], ap, sym, subst, ◌∙◌, arith}
use Rattle.bp_types.specs.declared.limits.TheConstants.{CALLERS}
use Rattle.bp_core.specs.declared.call.Call.TheVariants.{Enrol}
use Rattle.bp_desk.specs.Passes.{PassState, house_of, pass_of, newcomer}
use Rattle.bp_desk.specs.Calling.{MayMake, IsCalled}
use Rattle.bp_desk.proofs.Made.{State}
use Rattle.bp_desk.proofs.Standing.{next_below, next_contained, next_may_enrol, enrolled, handed_out, enrolment}
use Rattle.bp_desk.proofs.desk.Desk.seat_next.Goals as goal

pub split-requires-clause-number : goal.split-requires-clause-number
split-requires-clause-number g c =
    let s = c.pass.inside.seat in let next = c.pass.inside.next in
    let some : next < CALLERS =
    next_below s c.pass.inside.caller next c.pass.inside.newest c.pass.invariant
    (subst (λ (q : PassState). q.free ≢ []) (sym c.pass.view_is) c.requires.some) in
    next_contained s c.pass.inside.caller next c.pass.inside.newest c.pass.invariant some

pub make-answer-requires-clause-may : goal.make-answer-requires-clause-may
make-answer-requires-clause-may g c =
    let s = c.pass.inside.seat in let next = c.pass.inside.next in
    let some : next < CALLERS =
    next_below s c.pass.inside.caller next c.pass.inside.newest c.pass.invariant
    (subst (λ (q : PassState). q.free ≢ []) (sym c.pass.view_is) c.requires.some) in
    subst (λ (t : State). MayMake (house_of t) t.seen t.number Enrol) (sym c.in-Ok.ensures.new)
    (next_may_enrol s c.pass.inside.caller next c.pass.inside.newest c.pass.invariant some c.facts.ensures.free_entries)

pub invariant_of-result : goal.invariant_of-result
invariant_of-result g c =
    let e = c.in-Ok.ensures.new in
    enrolled c.in-Ok.seat c.make-answer.new.seat c.pass.inside.next c.make-answer.new.newest c.make-answer.result (ap (λ (t : State). t.number) e)
    (ap (λ (t : State). t.free) e)
    c.make-answer.ensures.before (ap (λ (t : State). t.own) e) c.make-answer.ensures.called c.make-answer.ensures.idle c.make-answer.ensures.newest

pub invariant_of-pass : goal.invariant_of-pass
invariant_of-pass g c =
    let s = c.pass.inside.seat in let next = c.pass.inside.next in
    let some : next < CALLERS =
    next_below s c.pass.inside.caller next c.pass.inside.newest c.pass.invariant
    (subst (λ (q : PassState). q.free ≢ []) (sym c.pass.view_is) c.requires.some) in
    handed_out s c.split.new.seat c.pass.inside.caller next c.pass.inside.newest c.pass.invariant (search rules) some c.split.ensures.seat

pub returns-clause-enrolled : goal.returns-clause-enrolled
returns-clause-enrolled g c =
    let s = c.pass.inside.seat in let next = c.pass.inside.next in let new = c.make-answer.new.seat in
    let some : next < CALLERS =
    next_below s c.pass.inside.caller next c.pass.inside.newest c.pass.invariant
    (subst (λ (q : PassState). q.free ≢ []) (sym c.pass.view_is) c.requires.some) in
    let called : IsCalled (newcomer (pass_of s) next) (pass_of new) Enrol c.make-answer.result =
    subst (λ (t : State). IsCalled (pass_of t) (pass_of new) Enrol c.make-answer.result) c.in-Ok.ensures.new c.make-answer.ensures.called in
    let all = enrolment s c.split.new.seat new c.pass.inside.caller next c.pass.inside.newest c.make-answer.result c.pass.invariant some c.split.ensures.seat
    called in
    rw (sym c.pass.view_is) all

pub returns-clause-number : goal.returns-clause-number
returns-clause-number g c =
    let s = c.pass.inside.seat in let next = c.pass.inside.next in let new = c.make-answer.new.seat in
    let some : next < CALLERS =
    next_below s c.pass.inside.caller next c.pass.inside.newest c.pass.invariant
    (subst (λ (q : PassState). q.free ≢ []) (sym c.pass.view_is) c.requires.some) in
    let number : new.number ≡ next = ap (λ (q : PassState). q.caller) c.make-answer.ensures.called.pass ∙ ap (λ (t : State). t.number) c.in-Ok.ensures.new in
    let one = c.pass.invariant.from_one in
    (omega (arith, number, one), omega (arith, number, some))
