use Rattle.std.proofs.Common.{Contains, ◌-◌, arith, ap, sym, subst}
use Rattle.bp_types.specs.declared.limits.TheConstants.{CALLERS}
use Rattle.bp_turn.proofs.Numbers.{run_contains}
use Rattle.bp_turn.proofs.tests.opened.Goals as goal

pub split-requires-clause-number : goal.split-requires-clause-number
split-requires-clause-number c = let small = c.requires in
    subst (λ ns. Contains ns c.args.other) (sym (ap (λ s. s.free) c.in_ok-turn.ensures)) (run_contains 1 (CALLERS - 1) c.args.other (let l = small.0 in
    omega arith) (let l = small.1 in omega arith))
