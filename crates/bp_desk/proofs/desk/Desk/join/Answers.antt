use Rattle.std.proofs.Common.{rules, ◌≡◌, ◌++◌, ap, sym, subst, ◌∙◌, append-nil}
use Rattle.bp_core.specs.Legal.{IsLegal}
use Rattle.bp_core.specs.Lines.{calls}
use Rattle.bp_desk.specs.Passes.{house_of}
use Rattle.bp_desk.proofs.Made.{State}
use Rattle.bp_desk.proofs.Standing.{pass_learns, learnt, newer_of}
use Rattle.bp_desk.proofs.desk.Desk.join.Goals as goal

pub invariant_of-pass : goal.invariant_of-pass
invariant_of-pass c =
    let s = c.pass.inside.seat in let t = c.left.inside.seat in let n = c.join.new.seat in let e = c.join.ensures.seat in
    let seen = ap (λ (x : State). x.seen) e in
    let own : calls n.seen s.number ≡ s.own = search rules in
    pass_learns s n c.pass.inside.caller c.pass.inside.next c.pass.inside.newest c.hear.new.self c.pass.invariant
    (subst (IsLegal (house_of s)) (sym seen) (learnt s t c.pass.invariant.idle c.left.invariant.idle c.join.ensures.fixed))
    c.facts.ensures.own_entries own (ap (λ (x : State). x.fixed) e) (ap (λ (x : State). x.number) e)
    (ap (λ (x : State). x.free) e ∙ ap (λ l. s.free ++ l) c.left.invariant.none_free ∙ append-nil s.free)
    (ap (λ (x : State). x.has_turn) e ∙ c.pass.invariant.idle.idle)
    (newer_of s t n.seen c.pass.inside.newest c.left.inside.newest c.hear.new.self c.pass.invariant.idle c.left.invariant.idle c.join.ensures.fixed
    c.pass.invariant.knows c.left.invariant.knows
    seen c.join.ensures.begins.0 c.join.ensures.begins.1 c.hear.ensures.newer c.hear.ensures.older)
