-- What is said of an answer of a settled solver, said of the instance that the solver was made of. Cited by other crates.
use Rattle.std.proofs.Common.{◌≡◌, Result, Ok, Err, IfOk, subst}
use Rattle.bp_types.specs.Program.{Program}

pub where_settled : {C E Settled : Type 0} (r : Result C E) (Is : Program → C → Type 0) (p q : Program)
    → IfOk r (λ c. Settled → Is p c) → Settled → p ≡ q → IfOk r (Is q)
where_settled (Ok c) Is p q h settled same = subst (λ (x : Program). Is x c) same (h settled)
where_settled (Err e) Is p q h settled same = tt
