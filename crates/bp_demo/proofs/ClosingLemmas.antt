-- What is left on a night is small.
use Rattle.std.proofs.Common.{◌≡◌, ℕ, ◌<◌, ◌≤◌, subst, arith, length}
use Rattle.std.specs.Prelude.{map}
use Rattle.std.specs.List.{range_with_len}
use Rattle.std.proofs.lemmas.List.Elements.{All-get_or}
use Rattle.std.proofs.lemmas.List.FromFn.{get_or-map-range_with_len, length-map-range_with_len}
use Rattle.bp_types.specs.declared.limits.TheConstants.{MOST_UNITS}
use Rattle.bp_types.specs.House.{Inn}
use Rattle.bp_types.specs.Limits.{IsWithinLimits}
use Rattle.bp_core.specs.Lines.{History}
use Rattle.bp_core.specs.Instance.{instance_of, units_left_at}

pub few_units : (h : Inn) (H : History) (night : ℕ) → IsWithinLimits (instance_of h H) → night < length h.rooms → units_left_at h H night ≤ MOST_UNITS
few_units h H night within below =
    let rooms = map (units_left_at h H) (range_with_len 0 (length h.rooms)) in
    let size : length rooms ≡ length h.rooms = length-map-range_with_len (units_left_at h H) 0 (length h.rooms) in
    subst (λ u. u ≤ MOST_UNITS) (get_or-map-range_with_len (units_left_at h H) 0 (length h.rooms) night night 0 below (omega arith))
    (All-get_or (λ u. u ≤ MOST_UNITS) rooms night 0 (omega arith) within.rooms)
