use Rattle.std.proofs.Common.{rules, refl, ◌≡◌, ℕ, ◌+◌, ◌≤◌, length, arith}
use Rattle.bp_types.specs.declared.limits.TheConstants.{MOST_SESSIONS, MOST_WORKERS}
use Rattle.bp_desk_run.specs.Finals.{AreScripted}
use Rattle.bp_desk_run.proofs.Scripting.{scripted_there, all_in_range, workers_have_none}
use Rattle.bp_desk_run.proofs.Starting.{ok_weaker}
use Rattle.bp_desk_run.proofs.Composing.{some_stale}
use Rattle.bp_desk_run.proofs.Room.{vectors_are_few}
use Rattle.bp_desk_run.proofs.run.counted_run.Goals as goal

pub run_callers-requires-clause-few : goal.run_callers-requires-clause-few
run_callers-requires-clause-few g c κs ls =
    let s = scripted_there c.args.scripts.items c.args.workers c.len-sessions.result c.in_ok-actors.actors.items c.deref_mut.result.now (search rules)
    (search rules) c.in_ok-actors.ensures in
    let n = s.callers in
    let a : length c.args.scripts.items ≤ MOST_SESSIONS = c.requires.sessions in
    let b : c.args.workers ≤ MOST_WORKERS = c.requires.workers in
    omega (arith, n, a, b)

pub run_callers-requires-clause-range : goal.run_callers-requires-clause-range
run_callers-requires-clause-range g c κs ls =
    let s = scripted_there c.args.scripts.items c.args.workers c.len-sessions.result c.in_ok-actors.actors.items c.deref_mut.result.now (search rules)
    (search rules) c.in_ok-actors.ensures in
    all_in_range c.args.house c.args.scripts.items c.args.workers c.len-sessions.result c.deref_mut.result.now c.requires.range s

pub run_callers-requires-clause-workers : goal.run_callers-requires-clause-workers
run_callers-requires-clause-workers g c κs ls =
    let s = scripted_there c.args.scripts.items c.args.workers c.len-sessions.result c.in_ok-actors.actors.items c.deref_mut.result.now (search rules)
    (search rules) c.in_ok-actors.ensures in
    workers_have_none c.args.scripts.items c.args.workers c.len-sessions.result c.deref_mut.result.now s

pub returns-clause-run : goal.returns-clause-run
returns-clause-run g c =
    let s = scripted_there c.args.scripts.items c.args.workers c.len-sessions.result c.in_ok-actors.actors.items c.deref_mut.result.now (search rules)
    (search rules) c.in_ok-actors.ensures in
    ok_weaker _ _ c.run_callers.result (λ r f. (f c.args.scripts.items c.args.workers s).run) c.run_callers.ensures.ran

pub returns-clause-whole : goal.returns-clause-whole
returns-clause-whole g c =
    let s = scripted_there c.args.scripts.items c.args.workers c.len-sessions.result c.in_ok-actors.actors.items c.deref_mut.result.now (search rules)
    (search rules) c.in_ok-actors.ensures in
    ok_weaker _ _ c.run_callers.result (λ r f. (f c.args.scripts.items c.args.workers s).whole) c.run_callers.ensures.ran

pub returns-clause-cut : goal.returns-clause-cut
returns-clause-cut g c =
    let s = scripted_there c.args.scripts.items c.args.workers c.len-sessions.result c.in_ok-actors.actors.items c.deref_mut.result.now (search rules)
    (search rules) c.in_ok-actors.ensures in
    ok_weaker _ _ c.run_callers.result (λ r f. (f c.args.scripts.items c.args.workers s).cut) c.run_callers.ensures.ran

pub returns-clause-vectors : goal.returns-clause-vectors
returns-clause-vectors g c =
    let s = scripted_there c.args.scripts.items c.args.workers c.len-sessions.result c.in_ok-actors.actors.items c.deref_mut.result.now (search rules)
    (search rules) c.in_ok-actors.ensures in
    let stale = some_stale c.args.house c.limits-limits.ensures.house in
    ok_weaker _ _ c.run_callers.result
    (λ r f. vectors_are_few c.args.house c.args.scripts.items c.args.workers r.book.history stale (f c.args.scripts.items c.args.workers s).run)
    c.run_callers.ensures.ran

pub returns-clause-room : goal.returns-clause-room
returns-clause-room g c =
    let s = scripted_there c.args.scripts.items c.args.workers c.len-sessions.result c.in_ok-actors.actors.items c.deref_mut.result.now (search rules)
    (search rules) c.in_ok-actors.ensures in
    ok_weaker _ _ c.run_callers.result (λ r f. (f c.args.scripts.items c.args.workers s).room) c.run_callers.ensures.ran
