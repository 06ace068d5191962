use Rattle.std.proofs.Common.{rules}
use Rattle.bp_types.proofs.HouseLemmas.{house_from_no_refusal}
use Rattle.bp_types.proofs.house.House.new.Goals as goal

pub invariant_of-result : goal.invariant_of-result
invariant_of-result c = house_from_no_refusal _ _ _ _ (search rules)
