use Rattle.std.proofs.Common.{rules, arith}
use Rattle.bp_types.specs.declared.limits.TheConstants.{MOST_UNITS}
use Rattle.bp_types.proofs.LimitLemmas.{limits_from_no_refusal}
use Rattle.bp_types.proofs.instance.Instance.new.Goals as goal

pub invariant_of-result : goal.invariant_of-result
invariant_of-result c = (limits_from_no_refusal MOST_UNITS _ _ (omega arith) (search rules)).0
