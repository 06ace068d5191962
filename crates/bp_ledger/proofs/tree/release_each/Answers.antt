use Rattle.std.proofs.Common.{◌≡◌, ◌≢◌, ℕ, ◌+◌, ◌-◌, ◌*◌, ◌/◌, ◌<◌, ◌≤◌, ◌∙◌, arith, length, refl, subst, sym}
use Rattle.bp_ledger.specs.Tree.{IsOnLevel, on_way, IsTaken}
use Rattle.bp_ledger.proofs.PushLemmas.{taken_none, taken_next, taken_fits}
use Rattle.bp_ledger.proofs.tree.release_each.Goals as goal

pub loop-leaf-init : goal.loop-leaf-init
loop-leaf-init c = record {
  taken = taken_none c.args.levels c.args.low c.args.units c.args.amounts.now;
  len = refl;
  leaves = λ m g. refl;
  inner = c.requires.inner;
}

pub release_at-requires-clause-leaf : goal.release_at-requires-clause-leaf
release_at-requires-clause-leaf c = let low = c.requires.low in let high = c.requires.high in (omega arith, omega arith)

pub release_at-requires-clause-fits : goal.release_at-requires-clause-fits
release_at-requires-clause-fits c =
    taken_fits c.args.levels c.args.low c.loop-leaf.leaf c.args.units c.args.amounts.now c.loop-leaf.amounts c.loop-leaf.invariant.taken c.requires.fits

pub release_at-requires-clause-sold : goal.release_at-requires-clause-sold
release_at-requires-clause-sold c =
    let low = c.requires.low in
    let high = c.requires.high in
    let on : IsOnLevel c.args.levels c.loop-leaf.leaf = (omega arith, omega arith) in
    let same = c.loop-leaf.invariant.taken.past c.loop-leaf.leaf on (omega arith) in
    let sold = c.requires.sold c.loop-leaf.leaf (omega arith) (omega arith) in
    omega arith

pub loop-leaf-preserved : goal.loop-leaf-preserved
loop-leaf-preserved c =
    let low = c.requires.low in
    let high = c.requires.high in
    let on : IsOnLevel c.args.levels c.loop-leaf.leaf = (omega arith, omega arith) in
    record {
      taken = taken_next c.args.levels c.args.low c.loop-leaf.leaf c.args.units c.args.amounts.now c.loop-leaf.amounts c.release_at.new.amounts c.requires.low
          on (omega arith) c.loop-leaf.invariant.taken c.release_at.ensures.taken;
      len = c.release_at.ensures.len ∙ c.loop-leaf.invariant.len;
      leaves = λ m g. c.release_at.ensures.leaves m g ∙ c.loop-leaf.invariant.leaves m g;
      inner = c.release_at.ensures.inner;
    }

pub returns-clause-taken : goal.returns-clause-taken
returns-clause-taken c =
    let last : c.loop-leaf.leaf ≡ c.args.high = omega arith in
    let P : ℕ → Type 0 = λ k. IsTaken c.args.levels c.args.low k c.args.units c.loop-leaf.amounts c.args.amounts.now in
    subst P last c.loop-leaf.invariant.taken
