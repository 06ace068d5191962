-- Changes that are made in two goes.
use Rattle.std.proofs.Common.{arith, [], ◌∷◌}
use Rattle.bp_types.specs.Changes.{changed}
use Rattle.bp_warm.specs.Laws.{UnitsAppend}

pub units_append : UnitsAppend
units_append p [] second = omega arith
units_append p (c ∷ first) second = let rest = units_append (changed p c) first second in omega (arith, rest)
