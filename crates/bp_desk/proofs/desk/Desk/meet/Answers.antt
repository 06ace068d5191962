use Rattle.std.proofs.Common.{rules, ◌≡◌, ap, sym, subst, ◌∙◌}
use Rattle.bp_turn.specs.Prefix.{longer}
use Rattle.bp_core.specs.Legal.{IsLegal}
use Rattle.bp_core.specs.Lines.{calls}
use Rattle.bp_desk.specs.Passes.{house_of}
use Rattle.bp_desk.specs.Newest.{IsNewest}
use Rattle.bp_desk.proofs.Made.{State}
use Rattle.bp_desk.proofs.Standing.{pass_learns, learnt, same_house, newer_of, newer_back}
use Rattle.bp_desk.proofs.desk.Desk.meet.Goals as goal

pub invariant_of-pass : goal.invariant_of-pass
invariant_of-pass c =
    let s = c.pass.inside.seat in let t = c.other.inside.seat in let n = c.meet.new.seat in let e = c.meet.ensures.seat in
    let own : calls n.seen s.number ≡ s.own = search rules in
    pass_learns s n c.pass.inside.caller c.pass.inside.next c.pass.inside.newest c.hear.new.self c.pass.invariant
    (subst (IsLegal (house_of s)) (sym (ap (λ (x : State). x.seen) e)) (learnt s t c.pass.invariant.idle c.other.invariant.idle c.meet.ensures.fixed))
    c.facts.ensures.own_entries own (ap (λ (x : State). x.fixed) e) (ap (λ (x : State). x.number) e) (ap (λ (x : State). x.free) e)
    (ap (λ (x : State). x.has_turn) e ∙ c.pass.invariant.idle.idle)
    (newer_of s t n.seen c.pass.inside.newest c.other.inside.newest c.hear.new.self c.pass.invariant.idle c.other.invariant.idle c.meet.ensures.fixed
    c.pass.invariant.knows c.other.invariant.knows
    (ap (λ (x : State). x.seen) e) c.meet.ensures.begins.0 c.meet.ensures.begins.1 c.hear.ensures.newer c.hear.ensures.older)

pub invariant_of-other : goal.invariant_of-other
invariant_of-other c =
    let s = c.pass.inside.seat in let t = c.other.inside.seat in let n = c.meet.new.other in let e = c.meet.ensures.other in let m = c.meet.new.seat in
    let seen : n.seen ≡ m.seen = ap (λ (x : State). x.seen) e ∙ sym (ap (λ (x : State). x.seen) c.meet.ensures.seat) in
    let own : calls n.seen t.number ≡ t.own = search rules in
    let knows : IsNewest (house_of s) m.seen c.hear.new.self =
    newer_of s t m.seen c.pass.inside.newest c.other.inside.newest c.hear.new.self c.pass.invariant.idle c.other.invariant.idle c.meet.ensures.fixed
    c.pass.invariant.knows c.other.invariant.knows
    (ap (λ (x : State). x.seen) c.meet.ensures.seat) c.meet.ensures.begins.0 c.meet.ensures.begins.1 c.hear.ensures.newer c.hear.ensures.older in
    pass_learns t n c.other.inside.caller c.other.inside.next c.other.inside.newest c.hear-2.new.self c.other.invariant
    (subst (IsLegal (house_of t)) (sym (ap (λ (x : State). x.seen) e))
    (subst (λ h. IsLegal h (longer s.seen t.seen)) (sym (same_house s t c.meet.ensures.fixed))
    (learnt s t c.pass.invariant.idle c.other.invariant.idle c.meet.ensures.fixed)))
    c.facts-2.ensures.own_entries own (ap (λ (x : State). x.fixed) e) (ap (λ (x : State). x.number) e) (ap (λ (x : State). x.free) e)
    (ap (λ (x : State). x.has_turn) e ∙ c.other.invariant.idle.idle)
    (newer_back s t n.seen m.seen c.other.inside.newest c.hear.new.self c.hear-2.new.self c.pass.invariant.idle c.other.invariant.idle c.meet.ensures.fixed
    c.other.invariant.knows knows seen
    c.meet.ensures.begins.1 (ap (λ (x : State). x.seen) c.meet.ensures.seat) c.hear-2.ensures.newer c.hear-2.ensures.older)
