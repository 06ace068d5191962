use Rattle.std.proofs.Common.{◌≡◌, map, take}
use Rattle.bp_types.specs.declared.stay.Stay.{Stay}
use Rattle.bp_core.proofs.book.opening_forecasts.Given as goal

-- the stays before this one are done
abbrev pub invariant-loop-stay : goal.invariant-loop-stay
invariant-loop-stay l = l.forecasts.items ≡ map (λ (s : Stay). s.forecast) (take l.stay l.house.stays)
