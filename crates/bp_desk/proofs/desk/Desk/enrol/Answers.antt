use Rattle.std.proofs.Common.{refl, ◌≡◌, [], sym, subst}
use Rattle.bp_desk.specs.Passes.{PassState}
use Rattle.bp_desk.proofs.Standing.{none_left, some_left}
use Rattle.bp_desk.proofs.desk.Desk.enrol.Goals as goal

pub returns-then-pass-clause-full : goal.returns-then-pass-clause-full
returns-then-pass-clause-full g c =
    let none = none_left c.pass.inside.seat c.pass.inside.caller c.pass.inside.next c.pass.inside.newest c.pass.invariant c.if-pass.true in
    (λ _. subst (λ (q : PassState). q.free ≡ []) c.pass.view_is none, λ _. refl)

pub returns-in_default-clause-full : goal.returns-in_default-clause-full
returns-in_default-clause-full g c =
    let some = some_left c.pass.inside.seat c.pass.inside.caller c.pass.inside.next c.pass.inside.newest c.pass.invariant c.if-pass.false in
    (λ e. absurd (cc), λ none. absurd (some (subst (λ (q : PassState). q.free ≡ []) (sym c.pass.view_is) none)))

pub seat_next-requires-clause-some : goal.seat_next-requires-clause-some
seat_next-requires-clause-some g c =
    let some = some_left c.pass.inside.seat c.pass.inside.caller c.pass.inside.next c.pass.inside.newest c.pass.invariant c.if-pass.false in
    λ none. some (subst (λ (q : PassState). q.free ≡ []) (sym c.pass.view_is) none)
