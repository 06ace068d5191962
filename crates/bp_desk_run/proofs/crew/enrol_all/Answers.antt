use Rattle.std.proofs.Common.{rules, refl, ◌≡◌, ℕ, ◌+◌, ◌-◌, ◌<◌, ◌≤◌, [], length, slice_index_or, ap, sym, subst, ◌∙◌, arith}
use Rattle.bp_desk_run.specs.Actors.{IsReady}
use Rattle.bp_desk_run.specs.declared.actor.Actor.{Actor}
use Rattle.bp_desk_run.proofs.Crewing.{default_same, next_place, more_ready, kept_none, keep_set, enrolled_none, enrolled_more}
use Rattle.bp_desk_run.proofs.crew.enrol_all.Goals as goal

pub loop-i-init : goal.loop-i-init
loop-i-init g c = (
  c.requires.desk,
  enrolled_none c.args.opener.now c.requires.free,
  (λ k a low high. absurd (omega (arith, low, high))),
  kept_none c.args.actors.now,
)

pub enrol-requires-clause-workers : goal.enrol-requires-clause-workers
enrol-requires-clause-workers g c above =
    let n = length c.args.actors.now in
    let i = c.loop-i.i in
    let d = c.index-actors-place.result in
    let lt : i < n = (let t = c.loop-i-test.true in omega (arith, t)) in
    ap (λ v. v.items) (c.loop-i.invariant.3.1 (n - 1 - i) d (omega (arith, lt))) ∙
    ap (λ k. (slice_index_or c.args.actors.now k d).commands.items) (next_place n i)
    ∙ c.requires.workers (i + 1) d above (omega (arith, lt))

pub loop-i-preserved : goal.loop-i-preserved
loop-i-preserved g c =
    let n = length c.args.actors.now in
    let i = c.loop-i.i in
    let inv = c.loop-i.invariant in
    let acts = c.loop-i.actors in
    let lt : i < n = (let t = c.loop-i-test.true in omega (arith, t)) in
    let e = c.in_ok-enrol.ensures in
    let house = inv.1.house in
    let many = inv.3.0 in
    let below : n - 1 - i < length acts = omega (arith, many, lt) in (
      e.opener.desk ∙ inv.0,
      enrolled_more i c.args.opener.now c.loop-i.opener c.enrol.new.opener inv.1 e.opener,
      more_ready c.args.desk.now c.args.opener.now.house c.args.sessions n i c.loop-i.opener.seen c.enrol.new.opener.seen acts c.enrol.new.self many lt
          e.opener.begins inv.2
          (subst (λ h. IsReady c.args.desk.now h c.args.sessions (i + 1) c.enrol.new.opener.seen c.enrol.new.self) house e.ready),
      keep_set c.args.actors.now acts (n - 1 - i) c.enrol.new.self c.index-actors-place.result below inv.3 e.commands,
    )
