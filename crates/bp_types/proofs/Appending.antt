-- Changes that are made in two goes.
use Rattle.std.proofs.Common.{refl, [], ◌∷◌}
use Rattle.bp_types.specs.Changes.{changed}
use Rattle.bp_types.specs.Laws.{ChangesAppend, FitsAppend}

pub changes_append : ChangesAppend
changes_append p [] second = refl
changes_append p (c ∷ first) second = changes_append (changed p c) first second

pub fits_append : FitsAppend
fits_append p [] second fits then = then
fits_append p (c ∷ first) second fits then = (fits.0, fits_append (changed p c) first second fits.1 then)
