use Rattle.std.proofs.Common.{rules, refl, ◌≡◌, ◌≢◌, ℕ, ◌+◌, ◌-◌, ◌<◌, ◌≤◌, length, slice_index_or, slice_set, ap, sym, subst, ◌∙◌, arith}
use mathlib.Core.Logic.{dite}
use native.Mathlib.Decide.{ℕ_discrete}
use Rattle.bp_desk_run.specs.Endings.{IsEnded}
use Rattle.bp_desk_run.specs.Actors.{HasRun}
use Rattle.bp_desk_run.specs.declared.actor.Actor.{Actor}
use Rattle.bp_desk_run.proofs.Crewing.{default_same, set_same, set_kept, set_length, next_place, joined_none, joined_more}
use Rattle.bp_desk_run.proofs.crew.join_all.Goals as goal

pub join-requires-clause-run : goal.join-requires-clause-run
join-requires-clause-run c =
    let r = c.requires.run in
    let n = length c.args.actors.now in
    let i = c.loop-i.i in
    let d = c.index-actors-place.result in
    let lt : i < n = (let t = c.loop-i-test.true in omega (arith, t)) in
    let same : slice_index_or c.loop-i.actors (n - 1 - i) d ≡ slice_index_or c.args.actors.now (n - (i + 1)) d =
    ap (λ k. slice_index_or c.loop-i.actors k d) (next_place n i) ∙ c.loop-i.invariant.2 (i + 1) d (omega arith) (omega (arith, lt)) in
    (r.0, r.1, i + 1, subst (HasRun c.args.desk.now r.0 r.1 (i + 1)) (sym same) (r.2 (i + 1) d (omega arith) (omega (arith, lt))))

pub loop-i-preserved : goal.loop-i-preserved
loop-i-preserved c =
    let n = length c.args.actors.now in
    let i = c.loop-i.i in
    let d = c.index-actors-place.result in
    let inv = c.loop-i.invariant in
    let acts = c.loop-i.actors in
    let init = c.args.actors.now in
    let lt : i < n = (let t = c.loop-i-test.true in omega (arith, t)) in
    let many = inv.3 in
    let below : n - 1 - i < length acts = omega (arith, many, lt) in
    let same : slice_index_or acts (n - 1 - i) d ≡ slice_index_or init (n - (i + 1)) d = ap (λ k. slice_index_or acts k d) (next_place n i) ∙
    inv.2 (i + 1) d (omega arith) (omega (arith, lt)) in (
      joined_more c.args.opener.now c.loop-i.opener c.join.new.opener inv.0 c.join.ensures.opener,
      (λ house sessions k a all low high. dite (ℕ_discrete k (i + 1))
          (λ is.
          let ran : HasRun c.args.desk.now house sessions (i + 1) (slice_index_or acts (n - 1 - i) d) =
          subst (HasRun c.args.desk.now house sessions (i + 1)) (sym same) (all (i + 1) d (omega arith) (omega (arith, lt))) in
          let ended : IsEnded house sessions (i + 1) (slice_index_or acts (n - 1 - i) d).commands.items c.join.new.opener
          (slice_index_or acts (n - 1 - i) d).stop = c.join.ensures.ended house sessions (i + 1) ran in
          let there : slice_index_or acts (n - 1 - i) d ≡ slice_index_or init (n - (i + 1)) a = same ∙
          default_same init (n - (i + 1)) d a (omega (arith, lt)) in
          let here : IsEnded house sessions (i + 1) (slice_index_or init (n - (i + 1)) a).commands.items c.join.new.opener
          (slice_index_or init (n - (i + 1)) a).stop =
          subst (λ (x : Actor). IsEnded house sessions (i + 1) x.commands.items c.join.new.opener x.stop) there ended in
          subst (λ j. IsEnded house sessions j (slice_index_or init (n - j) a).commands.items c.join.new.opener (slice_index_or init (n - j) a).stop) (sym is)
          here)
          (λ other. c.join.ensures.others house sessions k _ _ (inv.1 house sessions k a all low (omega (arith, high, other))))),
      (λ k a above short. set_kept acts (n - 1 - i) c.join.new.self (n - k) a (λ e. absurd (omega (arith, e, above, short, lt))) ∙
          inv.2 k a (omega (arith, above)) short),
      set_length acts (n - 1 - i) c.join.new.self ∙ many,
      (λ k a short. dite (ℕ_discrete k (n - 1 - i))
          (λ is.
          let at : slice_index_or (slice_set acts (n - 1 - i) c.join.new.self) k a ≡ c.join.new.self =
          ap (λ j. slice_index_or (slice_set acts (n - 1 - i) c.join.new.self) j a) is ∙ set_same acts (n - 1 - i) c.join.new.self a below in
          ap (λ (x : Actor). x.stop) at ∙ c.join.ensures.stop ∙ ap (λ (x : Actor). x.stop) (default_same acts (n - 1 - i) d a below) ∙
          ap (λ j. (slice_index_or acts j a).stop) (sym is) ∙ inv.4 k a short)
          (λ other. ap (λ (x : Actor). x.stop) (set_kept acts (n - 1 - i) c.join.new.self k a other) ∙ inv.4 k a short)),
    )
