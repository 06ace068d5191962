use Rattle.std.proofs.Common.{rules, refl, ◌≡◌, ℕ, ◌-◌, ◌<◌, ◌≤◌, length, slice_index_or, sym, subst, arith}
use Rattle.bp_desk_run.specs.Actors.{IsReady}
use Rattle.bp_desk_run.specs.declared.actor.Actor.{Actor}
use Rattle.bp_desk_run.proofs.Crewing.{at_place}
use Rattle.bp_desk_run.proofs.crew.run_all.Goals as goal

pub for_each_mut-requires-clause-accepts : goal.for_each_mut-requires-clause-accepts
for_each_mut-requires-clause-accepts g c κs ls i p lt is =
    let r = c.requires.ready in
    let all = at_place (λ n a. IsReady c.args.desk.now r.0 c.args.sessions n r.1 a) c.args.actors.now r.2 i p.now lt in (
      (r.0, length c.args.actors.now - i, r.1, subst (IsReady c.args.desk.now r.0 c.args.sessions (length c.args.actors.now - i) r.1) (sym is) all, r.3),
      (record { shared = c.type_bounds.sync-R.shared }, record { shared = c.type_bounds.sync-G.shared }),
    )
