use Rattle.std.proofs.Common.{ℕ, ◌≡◌, ◌<◌, false}
use Rattle.bp_scenarios.specs.Refused.{is_past}
use Rattle.bp_scenarios.proofs.refused.breaks_limit.Given as goal

-- no night before this one breaks a limit
abbrev pub invariant-loop-night : goal.invariant-loop-night
invariant-loop-night l = (n : ℕ) → n < l.night → is_past l.instance l.change n ≡ false
