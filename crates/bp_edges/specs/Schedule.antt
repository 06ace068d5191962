-- Which calls of an edge in memory fail.
use Rattle.std.specs.Prelude.{ℕ, ◌+◌, ◌-◌, ◌^◌, ◌<◌, ◌≤◌, List, All, Contains}
use Rattle.bp_edges.specs.Counts.{raised}

-- how many calls were made, and the calls that fail, counted from 1
pub record Schedule : Type 0 where
  pub calls : ℕ
  pub failing : List ℕ

-- after one more call
abbrev pub one_more : Schedule → Schedule
one_more schedule = record { calls = raised schedule.calls; failing = schedule.failing }

-- the next call is among those that fail
abbrev pub NextFails : Schedule → Type 0
NextFails schedule = (schedule.calls < 2 ^ 64 - 1) × Contains schedule.failing (schedule.calls + 1)

-- no call that fails is still to come
abbrev pub IsOver : Schedule → Type 0
IsOver schedule = All (λ call. call ≤ schedule.calls) schedule.failing
