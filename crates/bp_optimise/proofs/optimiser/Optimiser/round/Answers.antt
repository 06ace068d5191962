use Rattle.std.proofs.Common.{◌≡◌, arith, ap, ◌∙◌}
use Rattle.bp_desk.specs.Passes.{PassState}
use Rattle.bp_turn.specs.Prefix.{IsPrefix}
use Rattle.bp_core.specs.declared.line.Line.{Line}
use Rattle.bp_optimise.proofs.Leading.{prefix_le, prefix_on, looked, looked_again}
use Rattle.bp_optimise.proofs.Rounding.{on_err, goes_after, called_begins}
use Rattle.bp_optimise.proofs.Searches.{counts_later}
use Rattle.bp_optimise.proofs.optimiser.Optimiser.round.Goals as goal

pub returns-in_err-board-clause-refused : goal.returns-in_err-board-clause-refused
returns-in_err-board-clause-refused g c =
    on_err _ _ c.from_residual.result _
    (looked_again c.args.pass.now c.lag-lag.new.pass c.advance_to.new.pass (looked c.args.pass.now c.lag-lag.new.pass c.lag-lag.ensures.read)
    c.advance_to.ensures.pass)

pub returns-in_err-board-clause-counted : goal.returns-in_err-board-clause-counted
returns-in_err-board-clause-counted g c =
    let first = c.lag-lag.new.pass in
    let new = c.advance_to.new.pass in
    let l = c.advance_to.ensures.pass in
    let at = c.advance_to.ensures.position in
    let long = c.lag-lag.ensures.length in
    let w = c.requires.goes.within in
    let le = prefix_le c.args.pass.now.seen first.seen c.lag-lag.ensures.read.begins in
    counts_later first.house new.house first.seen new.seen c.args.steps.now c.advance_to.new.steps c.args.self.now c.advance_to.new.self l.house l.begins
    (omega (arith, at, long, w, le)) (omega (arith, at, long)) c.advance_to.ensures.counted

pub returns-clause-goes : goal.returns-clause-goes
returns-clause-goes g c = goes_after c.advance_to.new.pass c.publish.new.pass _ _ c.advance_to.new.self c.publish.ensures.called c.advance_to.ensures.goes

pub returns-clause-counted : goal.returns-clause-counted
returns-clause-counted g c =
    let first = c.lag-lag.new.pass in
    let mid = c.advance_to.new.pass in
    let new = c.publish.new.pass in
    let l = c.advance_to.ensures.pass in
    let called = c.publish.ensures.called in
    let at = c.advance_to.ensures.position in
    let long = c.lag-lag.ensures.length in
    let w = c.requires.goes.within in
    let le = prefix_le c.args.pass.now.seen first.seen c.lag-lag.ensures.read.begins in
    let house : new.house ≡ first.house = ap (λ (p : PassState). p.house) called.pass ∙ l.house in
    let grows : IsPrefix first.seen new.seen = prefix_on Line first.seen mid.seen new.seen l.begins (called_begins mid new _ _ called) in
    counts_later first.house new.house first.seen new.seen c.args.steps.now c.advance_to.new.steps c.args.self.now c.advance_to.new.self house grows
    (omega (arith, at, long, w, le)) (omega (arith, at, long)) c.advance_to.ensures.counted
