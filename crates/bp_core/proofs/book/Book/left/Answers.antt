use Rattle.std.proofs.Common.{◌≡◌, ◌-◌, ◌∙◌, ap, sym, arith, cond, min, rules, ℕ, Bool}
use Rattle.bp_core.specs.Acting.{Diary}
use Rattle.bp_core.specs.Callers.{greatest_caller, has_left, left_of}
use Rattle.bp_core.specs.Roll.{is_gone}
use Rattle.bp_core.proofs.Standings.{gone_has_left, left_of_fewer, left_step}
use Rattle.bp_core.proofs.book.Book.left.Goals as goal
use Rattle.bp_core.proofs.book.Book.left.Goals.{then-is_gone, else-is_gone}

pub loop-caller-preserved : goal.loop-caller-preserved
loop-caller-preserved c =
    let gone = c.is_gone.ensures ∙ ap is_gone (c.self.invariant.standings c.loop-caller.caller (omega arith)) ∙ gone_has_left _ _ ∙
    ap (λ (b : Diary). has_left b.history c.loop-caller.caller) c.self.view_is in
    let step = left_step c.args.self.now.history c.loop-caller.caller (omega arith) in
    let one = ap (λ (b : Bool). cond {A = ℕ} b 1 0) gone in
    elim c.if-is_gone.branch [
      | then-is_gone w ↦ let t = ap (λ (b : Bool). cond {A = ℕ} b 1 0) w.if-is_gone.true in
          record {
            counted = omega (arith, step, one, t, w.left-is, c.loop-caller.invariant.counted);
            small =
                omega (arith, w.left-is, c.loop-caller.invariant.small);
          }
      | else-is_gone w ↦ let f = ap (λ (b : Bool). cond {A = ℕ} b 1 0) w.if-is_gone.false in
          record {
            counted = omega (arith, step, one, f, w.left-is, c.loop-caller.invariant.counted);
            small =
                omega (arith, w.left-is, c.loop-caller.invariant.small);
          }
    ]

pub returns : goal.returns
returns c =
    let H = c.args.self.now.history in
    let most_is : c.min-most.result ≡ min c.args.sessions greatest_caller = search rules in
    let last : c.loop-caller.caller - 1 ≡ c.min-most.result = omega arith in
    c.loop-caller.invariant.counted ∙ ap (left_of H) last ∙ ap (λ (b : Diary). left_of b.history c.min-most.result) (sym c.self.view_is)
    ∙ left_of_fewer _ _ c.min-most.result c.args.sessions c.self.invariant.legal most_is ∙ ap (λ (b : Diary). left_of b.history c.args.sessions) c.self.view_is
