-- A run that was cut is not complete and closed.
use Rattle.std.proofs.Common.{◌≡◌, ◌⊎◌, inl, inr, ◌≤◌, arith}
use Rattle.bp_desk_run.specs.DeskRun.{NoEntryLeft, NoVectorLeft, NoClosingVectorLeft}
use Rattle.bp_desk_run.specs.Laws.{CutIsNotWhole}

pub cut_is_not_whole : CutIsNotWhole
cut_is_not_whole house scripts H cut complete closed = by_cause cut.cause
  where
    by_cause : NoEntryLeft house scripts H ⊎ (NoVectorLeft house scripts H ⊎ NoClosingVectorLeft house scripts H) → ⊥
    by_cause (inl (full, (i, lt, other))) = other (complete i lt)
    by_cause (inr (inl (full, stale, (i, lt, other)))) = other (complete i lt)
    by_cause (inr (inr (whole, full, some))) = omega (arith, closed, some)
