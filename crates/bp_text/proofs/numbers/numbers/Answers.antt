use Rattle.std.proofs.Common.{ℕ, ◌+◌, List, ap, subst, sym, arith}
use Rattle.bp_text.proofs.FormLemmas.{IsSeen, not_empty, no_space_no_numbers, no_number_no_numbers, seen_great, seen_value}
use Rattle.bp_text.proofs.numbers.numbers.Goals as goal
use Rattle.bp_text.proofs.numbers.numbers.Goals.{in-Great, in-Value+in_ok-keep-in-Value}

pub returns-in_default : goal.returns-in_default
returns-in_default c =
    no_space_no_numbers _ c.loop-rest.rest.now _ _ _ c.loop-rest.invariant (not_empty _ _ c.is_empty.ensures c.loop-rest-test.true) c.in_default.ensures

pub returns-in-Bad : goal.returns-in-Bad
returns-in-Bad c = no_number_no_numbers _ _ _ _ _ _ _ c.loop-rest.invariant c.in-Some.ensures c.in-Bad.ensures

pub overflow_add-count : goal.overflow_add-count
overflow_add-count c = omega (arith, c.loop-rest.invariant.room, not_empty _ _ c.is_empty.ensures c.loop-rest-test.true)

pub loop-rest-preserved : goal.loop-rest-preserved
loop-rest-preserved c =
    let P : List ℕ → Type 0 = λ items. IsSeen c.args.text.now c.in-Some.more.now c.args.bounds items (c.loop-rest.count + 1) in
    elim c.match-number.branch [
      | in-Great w ↦
          let great = w.in-Great.ensures in
          subst P (ap (λ v. v.items) (sym w.into-is))
          (seen_great _ c.loop-rest.rest.now _ _ _ _ _ great.0 c.loop-rest.invariant c.in-Some.ensures great.2 (omega (arith, great.1, c.from.ensures)))
      | in-Value+in_ok-keep-in-Value w ↦
          let value = w.in-Value.ensures in
          subst P (ap (λ v. v.items) (sym w.into-is))
          (seen_value _ c.loop-rest.rest.now _ _ _ _ _ _ _ c.loop-rest.invariant c.in-Some.ensures value.1 (omega (arith, value.0, c.from.ensures))
          w.in_ok-keep-in-Value.ensures)
    ]
