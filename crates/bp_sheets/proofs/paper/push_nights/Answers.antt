use Rattle.std.proofs.Common.{arith}
use Rattle.bp_sheets.proofs.Pages.{with_night}
use Rattle.bp_sheets.proofs.paper.push_nights.Goals as goal

pub loop-night-preserved : goal.loop-night-preserved
loop-night-preserved c =
    with_night c.args.text.now.items c.loop-night.text.items c.push_night.new.text.items c.args.bands.now c.loop-night.night _ (omega arith)
    c.loop-night.invariant c.in_ok-push_night.ensures
