use Rattle.std.proofs.Common.{◌≡◌, ◌∙◌, rules, arith}
use Rattle.bp_sheets.proofs.Pages.{with_arrival}
use Rattle.bp_sheets.proofs.paper.push_arrivals.Goals as goal

pub loop-arrival-preserved : goal.loop-arrival-preserved
loop-arrival-preserved c =
    let same : c.deref.result.now ≡ c.in_ok-hurdles.hurdles.items = search rules in
    with_arrival c.args.text.now.items c.loop-arrival.text.items c.push_arrival.new.text.items c.args.board.now.certificate.prices c.deref.result.now
    c.args.lengths.now c.loop-arrival.arrival _
    (omega arith) (same ∙ c.in_ok-hurdles.ensures) c.loop-arrival.invariant c.in_ok-push_arrival.ensures
