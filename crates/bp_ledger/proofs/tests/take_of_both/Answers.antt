use Rattle.std.proofs.Common.{nat_lt, ◌-◌, ◌∙◌, sym, arith}
use Rattle.std.proofs.lemmas.Bool.{ltb-false}
use Rattle.bp_types.proofs.Firsts.{none_passes}
use Rattle.bp_ledger.specs.Inventory.{rooms_left_on}
use Rattle.bp_ledger.proofs.tests.take_of_both.Goals as goal

-- no night of the span lacks the units, where none is found
pub take-requires-clause-left : goal.take-requires-clause-left
take-requires-clause-left c = λ n from to. ltb-false _ _ (none_passes (λ k. nat_lt (rooms_left_on c.args.ledger.now k) c.args.units) c.args.span.from
    (c.args.span.to - c.args.span.from) (sym c.first_full.ensures ∙ c.in-None.is) n from (omega arith))
