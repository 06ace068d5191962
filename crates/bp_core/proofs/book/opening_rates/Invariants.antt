use Rattle.std.proofs.Common.{◌≡◌, map, take}
use Rattle.bp_types.specs.declared.stay.Stay.{Stay}
use Rattle.bp_core.proofs.book.opening_rates.Given as goal

-- the stays before this one are done
abbrev pub invariant-loop-stay : goal.invariant-loop-stay
invariant-loop-stay l = l.rates.items ≡ map (λ (s : Stay). s.rate) (take l.stay l.house.stays)
