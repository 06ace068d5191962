use Rattle.std.proofs.Common.{◌≡◌, ◌∙◌, length, None, arith, length-take}
use Rattle.std.proofs.lemmas.List.{with_items_is, take_all}
use Rattle.std.proofs.lemmas.Result.{err_from_is_err_and}
use Rattle.bp_hotelfile.specs.Nights.{refused_table}
use Rattle.bp_hotelfile.proofs.NightLemmas.{at_most_nights, table_more, table_refused, rooms_by_night-is}
use Rattle.bp_hotelfile.proofs.nights.rooms_by_night.Goals as goal

-- no night has two tables, so there are few of them
pub overflow_cast-index : goal.overflow_cast-index
overflow_cast-index c =
    let few = at_most_nights _ _ _ _ c.loop-index.invariant.holds in
    omega (arith, few, length-take c.loop-index.index c.args.tables.now)

pub loop-index-preserved : goal.loop-index-preserved
loop-index-preserved c =
    let put = rw c.deref_mut.ensures.value at c.in_ok-place.ensures in
    let (right, holds) = table_more c.args.settings.first c.args.settings.nights c.loop-index.index c.args.tables.now c.loop-index.own.items c.place.new.own
    c.loop-index-test.true c.loop-index.invariant.right c.loop-index.invariant.holds put in
    record {
      right = right;
      holds = rw (with_items_is c.loop-index.own c.place.new.own (omega (arith, c.place.auto.own, c.deref_mut.ensures.len))) holds;
    }

pub returns-in_err-place-clause-err : goal.returns-in_err-place-clause-err
returns-in_err-place-clause-err c =
    let p = err_from_is_err_and c.from_residual-in_err-place.result c.from_residual-in_err-place.ensures.1 in
    let wrong = rw c.deref_mut.ensures.value at c.in_err-place.ensures in
    rw (p.1, p.2) (table_refused c.args.settings.first c.args.settings.nights c.loop-index.index c.args.tables.now c.loop-index.own.items _
    c.loop-index-test.true c.loop-index.invariant.right c.loop-index.invariant.holds wrong)

pub returns-clause-ok : goal.returns-clause-ok
returns-clause-ok c =
    let all : length c.args.tables.now ≡ c.loop-index.index = omega arith in
    let right : refused_table c.args.settings.first c.args.settings.nights c.args.tables.now ≡ None = rw all c.loop-index.invariant.right in
    let holds = rw (take_all c.loop-index.index c.args.tables.now (omega arith)) at c.loop-index.invariant.holds in
    let rooms = rooms_by_night-is c.args.settings.first c.args.settings.nights c.args.settings.rooms c.args.tables.now c.loop-index.own.items holds in
    (right, c.in_ok-with_default.ensures ∙ rw c.deref.ensures.value rooms)
