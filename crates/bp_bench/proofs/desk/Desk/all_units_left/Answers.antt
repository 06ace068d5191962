use Rattle.std.proofs.Common.{arith}
use Rattle.std.proofs.lemmas.List.FromFn.{map-range_with_len_more}
use Rattle.bp_core.specs.Instance.{units_left_at}
use Rattle.bp_bench.proofs.desk.Desk.all_units_left.Goals as goal

pub loop-night-preserved : goal.loop-night-preserved
loop-night-preserved c =
    let next = map-range_with_len_more (units_left_at c.args.self.now.house c.args.self.now.history) 0 c.loop-night.night c.loop-night.night (omega arith) in
    rw (next, ← c.loop-night.invariant, ← c.in_ok-units_left.ensures) c.in_ok-push.ensures.items
