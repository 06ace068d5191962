use Rattle.std.proofs.Common.{arith}
use Rattle.std.proofs.lemmas.List.FromFn.{map-range_with_len_more}
use Rattle.bp_core.specs.Instance.{stay_now}
use Rattle.bp_bench.proofs.desk.Desk.stays_now.Goals as goal

pub loop-stay-preserved : goal.loop-stay-preserved
loop-stay-preserved c =
    let next = map-range_with_len_more (stay_now c.args.self.now.house c.args.self.now.history) 0 c.loop-stay.stay c.loop-stay.stay (omega arith) in
    rw (next, ← c.loop-stay.invariant, ← c.stay_now.ensures) c.in_ok-push.ensures.items
