use Rattle.std.proofs.Common.{rules, refl, ◌≡◌, ℕ, ◌+◌, ◌-◌, ◌<◌, ◌≤◌, [], ◌∷◌, length, slice_index_or, ap, sym, subst, ◌∙◌, arith}
use mathlib.Core.Logic.{dite}
use native.Mathlib.Decide.{ℕ_discrete}
use Rattle.bp_types.specs.House.{Inn}
use Rattle.bp_core.specs.declared.call.Call.TheVariants.{Enrol}
use Rattle.bp_core.specs.declared.line.Reply.TheVariants.{Done}
use Rattle.bp_core.specs.Lines.{calls}
use Rattle.bp_core.specs.Acting.{line_of}
use Rattle.bp_desk.specs.Passes.{PassState}
use Rattle.bp_desk_run.specs.Actors.{IsReady, AreReady}
use Rattle.bp_desk_run.specs.declared.actor.Actor.{Actor}
use Rattle.bp_desk_run.proofs.Crewing.{default_same, next_place, still_ready, kept_none, keep_set}
use Rattle.bp_desk_run.proofs.crew.meet_all.Goals as goal

pub loop-i-init : goal.loop-i-init
loop-i-init c = (refl, (λ house sessions all. (all, λ k low high. absurd (omega (arith, low, high)))), kept_none c.args.actors.now)

pub meet-requires-clause-ready : goal.meet-requires-clause-ready
meet-requires-clause-ready c =
    let r = c.requires.ready in
    let n = length c.args.actors.now in
    let i = c.loop-i.i in
    let inv = c.loop-i.invariant in
    let lt : i < n = (let t = c.loop-i-test.true in omega (arith, t)) in
    let at : IsReady c.args.desk.now r.0 r.1 (i + 1) c.args.opener.now.seen (slice_index_or c.loop-i.actors (n - (i + 1)) c.index-actors-place.result) =
    (inv.1 r.0 r.1 r.2).0 (i + 1) c.index-actors-place.result (omega arith) (omega (arith, lt)) in
    let here : IsReady c.args.desk.now r.0 r.1 (i + 1) c.args.opener.now.seen (slice_index_or c.loop-i.actors (n - 1 - i) c.index-actors-place.result) =
    subst (λ k. IsReady c.args.desk.now r.0 r.1 (i + 1) c.args.opener.now.seen (slice_index_or c.loop-i.actors k c.index-actors-place.result))
    (sym (next_place n i)) at in (
      r.0,
      r.1,
      i + 1,
      subst (λ (p : PassState). IsReady c.args.desk.now r.0 r.1 (i + 1) p.seen
          (slice_index_or c.loop-i.actors (n - 1 - i) c.index-actors-place.result)) (sym inv.0) here,
    )

pub loop-i-preserved : goal.loop-i-preserved
loop-i-preserved c =
    let n = length c.args.actors.now in
    let i = c.loop-i.i in
    let d = c.index-actors-place.result in
    let inv = c.loop-i.invariant in
    let acts = c.loop-i.actors in
    let seen = c.args.opener.now.seen in
    let lt : i < n = (let t = c.loop-i-test.true in omega (arith, t)) in
    let many = inv.2.0 in
    let below : n - 1 - i < length acts = omega (arith, many, lt) in (
      c.meet.ensures.opener ∙ inv.0,
      (λ house sessions all.
          let old = inv.1 house sessions all in
          let at : IsReady c.args.desk.now house sessions (i + 1) seen (slice_index_or acts (n - (i + 1)) d) =
          old.0 (i + 1) d (omega arith) (omega (arith, lt)) in
          let here : IsReady c.args.desk.now house sessions (i + 1) seen (slice_index_or acts (n - 1 - i) d) =
          subst (λ k. IsReady c.args.desk.now house sessions (i + 1) seen (slice_index_or acts k d)) (sym (next_place n i)) at in
          let now : IsReady c.args.desk.now house sessions (i + 1) c.loop-i.opener.seen (slice_index_or acts (n - 1 - i) d) =
          subst (λ (p : PassState). IsReady c.args.desk.now house sessions (i + 1) p.seen (slice_index_or acts (n - 1 - i) d)) (sym inv.0) here in
          let both = c.meet.ensures.ready house sessions (i + 1) now in
          let met : IsReady c.args.desk.now house sessions (i + 1) seen c.meet.new.self =
          subst (λ (p : PassState). IsReady c.args.desk.now house sessions (i + 1) p.seen c.meet.new.self) inv.0 both.0 in
          let own : calls seen (i + 1) ≡ line_of (i + 1) Enrol Done ∷ [] =
          subst (λ (p : PassState). calls p.seen (i + 1) ≡ line_of (i + 1) Enrol Done ∷ []) inv.0 both.1 in (
            still_ready c.args.desk.now house sessions n i seen acts c.meet.new.self many lt old.0 met,
            λ k low high. dite (ℕ_discrete k (i + 1)) (λ is. subst (λ j. calls seen j ≡ line_of j Enrol Done ∷ []) (sym is) own)
                (λ other. old.1 k low (omega (arith, high, other))),
          )),
      keep_set c.args.actors.now acts (n - 1 - i) c.meet.new.self d below inv.2 c.meet.ensures.commands,
    )

pub returns-clause-ready : goal.returns-clause-ready
returns-clause-ready c house sessions all =
    let inv = c.loop-i.invariant in
    let both = inv.1 house sessions all in
    let n = length c.args.actors.now in (
      subst (λ m. (k : ℕ) (a : Actor) → 1 ≤ k → k ≤ m →
          IsReady c.args.desk.now house sessions k c.args.opener.now.seen (slice_index_or c.loop-i.actors (m - k) a)) (sym inv.2.0) both.0,
      λ k low high. both.1 k low (let t = c.loop-i-test.false in omega (arith, t, high)),
    )
