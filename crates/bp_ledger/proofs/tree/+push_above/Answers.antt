use Rattle.std.proofs.Common.{◌≡◌, ◌≢◌, ℕ, ◌+◌, ◌-◌, ◌*◌, ◌/◌, ◌<◌, ◌≤◌, ◌∙◌, suc, arith, length, subst, sym, refl}
use Rattle.bp_ledger.specs.Tree.{IsOnLevel, kept_at, IsInner, SameWays}
use Rattle.bp_ledger.proofs.NodeLemmas.{at_other}
use Rattle.bp_ledger.proofs.LevelLemmas.{width_mono, width_half, width_some, level_step}
use Rattle.bp_ledger.proofs.PushLemmas.{push_fits, push_ways, push_inner, push_clears, same_ways, fits_still}
use Rattle.bp_ledger.proofs.tree.+push_above.Goals as goal

pub push-requires-clause-node : goal.push-requires-clause-node
push-requires-clause-node t c =
    let some = c.if-level-gt0.true in
    let up : c.args.level ≡ suc (c.args.level - 1) = omega arith in
    let on : IsOnLevel (c.args.level - 1) (c.args.node / 2) = level_step (c.args.level - 1) c.args.level c.args.node up c.requires.node in
    let half = width_half (c.args.level - 1) c.args.level up in
    let wide = width_mono c.args.level c.args.levels c.requires.level in
    let one = width_some (c.args.level - 1) in
    let len = c.push_above.ensures.len in
    let same = c.push_above.ensures.ways.len in
    omega arith

pub push-requires-clause-leasts : goal.push-requires-clause-leasts
push-requires-clause-leasts t c =
    let some = c.if-level-gt0.true in
    let up : c.args.level ≡ suc (c.args.level - 1) = omega arith in
    let on : IsOnLevel (c.args.level - 1) (c.args.node / 2) = level_step (c.args.level - 1) c.args.level c.args.node up c.requires.node in
    let half = width_half (c.args.level - 1) c.args.level up in
    let wide = width_mono c.args.level c.args.levels c.requires.level in
    let one = width_some (c.args.level - 1) in
    let len = c.push_above.ensures.len in
    let same = c.push_above.ensures.ways.len in
    omega arith

pub push-requires-clause-amounts : goal.push-requires-clause-amounts
push-requires-clause-amounts t c =
    let some = c.if-level-gt0.true in
    let up : c.args.level ≡ suc (c.args.level - 1) = omega arith in
    let on : IsOnLevel (c.args.level - 1) (c.args.node / 2) = level_step (c.args.level - 1) c.args.level c.args.node up c.requires.node in
    let half = width_half (c.args.level - 1) c.args.level up in
    let wide = width_mono c.args.level c.args.levels c.requires.level in
    let one = width_some (c.args.level - 1) in
    let len = c.push_above.ensures.len in
    let same = c.push_above.ensures.ways.len in
    omega arith

pub push-requires-clause-left : goal.push-requires-clause-left
push-requires-clause-left t c =
    let some = c.if-level-gt0.true in
    let up : c.args.level ≡ suc (c.args.level - 1) = omega arith in
    let on : IsOnLevel (c.args.level - 1) (c.args.node / 2) = level_step (c.args.level - 1) c.args.level c.args.node up c.requires.node in
    let half = width_half (c.args.level - 1) c.args.level up in
    let wide = width_mono c.args.level c.args.levels c.requires.level in
    let one = width_some (c.args.level - 1) in
    let len = c.push_above.ensures.len in
    let same = c.push_above.ensures.ways.len in
    push_fits c.args.levels (c.args.level - 1) (c.args.node / 2) (2 * (c.args.node / 2)) c.push_above.new.amounts (omega arith) on (omega arith)
    (fits_still c.args.levels c.args.amounts.now c.push_above.new.amounts c.push_above.ensures.ways c.requires.fits)

pub push-requires-clause-right : goal.push-requires-clause-right
push-requires-clause-right t c =
    let some = c.if-level-gt0.true in
    let up : c.args.level ≡ suc (c.args.level - 1) = omega arith in
    let on : IsOnLevel (c.args.level - 1) (c.args.node / 2) = level_step (c.args.level - 1) c.args.level c.args.node up c.requires.node in
    let half = width_half (c.args.level - 1) c.args.level up in
    let wide = width_mono c.args.level c.args.levels c.requires.level in
    let one = width_some (c.args.level - 1) in
    let len = c.push_above.ensures.len in
    let same = c.push_above.ensures.ways.len in
    push_fits c.args.levels (c.args.level - 1) (c.args.node / 2) (2 * (c.args.node / 2) + 1) c.push_above.new.amounts (omega arith) on (omega arith)
    (fits_still c.args.levels c.args.amounts.now c.push_above.new.amounts c.push_above.ensures.ways c.requires.fits)

pub returns-then-level-gt0-clause-ways : goal.returns-then-level-gt0-clause-ways
returns-then-level-gt0-clause-ways t c =
    let some = c.if-level-gt0.true in
    let up : c.args.level ≡ suc (c.args.level - 1) = omega arith in
    let on : IsOnLevel (c.args.level - 1) (c.args.node / 2) = level_step (c.args.level - 1) c.args.level c.args.node up c.requires.node in
    let half = width_half (c.args.level - 1) c.args.level up in
    let wide = width_mono c.args.level c.args.levels c.requires.level in
    let one = width_some (c.args.level - 1) in
    let len = c.push_above.ensures.len in
    let same = c.push_above.ensures.ways.len in
    same_ways c.args.levels c.args.amounts.now c.push_above.new.amounts c.push.new.amounts c.push_above.ensures.ways
    (push_ways c.args.levels (c.args.level - 1) (c.args.node / 2) c.push_above.new.amounts c.push.new.amounts (omega arith) on (omega arith)
    c.push.ensures.amounts)

pub returns-then-level-gt0-clause-none : goal.returns-then-level-gt0-clause-none
returns-then-level-gt0-clause-none t c =
    let some = c.if-level-gt0.true in
    let up : c.args.level ≡ suc (c.args.level - 1) = omega arith in
    let on : IsOnLevel (c.args.level - 1) (c.args.node / 2) = level_step (c.args.level - 1) c.args.level c.args.node up c.requires.node in
    let half = width_half (c.args.level - 1) c.args.level up in
    let wide = width_mono c.args.level c.args.levels c.requires.level in
    let one = width_some (c.args.level - 1) in
    let len = c.push_above.ensures.len in
    let same = c.push_above.ensures.ways.len in
    push_clears c.args.level (c.args.level - 1) (c.args.node / 2) c.args.node c.push_above.new.amounts c.push.new.amounts up refl (omega arith)
    c.push.ensures.amounts c.push_above.ensures.none

pub returns-then-level-gt0-clause-inner : goal.returns-then-level-gt0-clause-inner
returns-then-level-gt0-clause-inner t c =
    let some = c.if-level-gt0.true in
    let up : c.args.level ≡ suc (c.args.level - 1) = omega arith in
    let on : IsOnLevel (c.args.level - 1) (c.args.node / 2) = level_step (c.args.level - 1) c.args.level c.args.node up c.requires.node in
    let half = width_half (c.args.level - 1) c.args.level up in
    let wide = width_mono c.args.level c.args.levels c.requires.level in
    let one = width_some (c.args.level - 1) in
    let len = c.push_above.ensures.len in
    let same = c.push_above.ensures.ways.len in
    rw c.push.ensures.leasts
    (push_inner c.args.levels c.push_above.new.leasts c.push_above.new.amounts c.push.new.amounts (c.args.node / 2) (omega arith) (omega arith) (omega arith)
    c.push.ensures.amounts c.push_above.ensures.inner)

pub returns-then-level-gt0-clause-leaves : goal.returns-then-level-gt0-clause-leaves
returns-then-level-gt0-clause-leaves t c = λ m g.
    let some = c.if-level-gt0.true in
    let up : c.args.level ≡ suc (c.args.level - 1) = omega arith in
    let on : IsOnLevel (c.args.level - 1) (c.args.node / 2) = level_step (c.args.level - 1) c.args.level c.args.node up c.requires.node in
    let half = width_half (c.args.level - 1) c.args.level up in
    let wide = width_mono c.args.level c.args.levels c.requires.level in
    let one = width_some (c.args.level - 1) in
    let len = c.push_above.ensures.len in
    let same = c.push_above.ensures.ways.len in
    rw c.push.ensures.leasts
    (at_other c.push_above.new.leasts m (c.args.node / 2) (kept_at c.push_above.new.leasts c.push_above.new.amounts (c.args.node / 2)) (omega arith) ∙
    c.push_above.ensures.leaves m g)
