use Rattle.std.proofs.Common.{◌++◌, take, sym, ap, ◌∙◌}
use Rattle.bp_edges.proofs.Grows.{Appended-append, Appended-from, split_again}
use Rattle.bp_edges.proofs.out_sink.write_out.Goals as goal

pub loop-rest-preserved : goal.loop-rest-preserved
loop-rest-preserved g c =
    let inv = c.loop-rest.invariant in
    let rest = c.loop-rest.rest.now in
    let n = c.in-Ok.taken in (
      inv.0 ++ take n rest,
      inv.1 ∙ split_again inv.0 rest n ∙ ap (λ l. inv.0 ++ take n rest ++ l) (sym c.split_at.ensures.back),
      Appended-append _ _ inv.2 (Appended-from _ _ _ c.in-Ok.ensures.bytes),
    )
