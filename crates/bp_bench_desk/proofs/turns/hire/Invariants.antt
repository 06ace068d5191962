use Rattle.std.proofs.Common.{◌≤◌, ◌<◌, ℕ, All, Contains}
use Rattle.bp_types.specs.declared.limits.TheConstants.{CALLERS}
use Rattle.bp_bench_desk.specs.Turning.{IsReady}
use Rattle.bp_bench_desk.proofs.turns.hire.Given as goal

-- the first seat still has this number and those above it to hand out
abbrev pub invariant-loop-caller : goal.invariant-loop-caller
invariant-loop-caller l =
    IsReady l.turn-inside.table.shared.table_id 0 l.first × ((n : ℕ) → l.caller ≤ n → n < CALLERS → Contains l.first.free n) ×
    All (λ w. IsReady l.turn-inside.table.shared.table_id w.caller w.seat) l.workers.items
