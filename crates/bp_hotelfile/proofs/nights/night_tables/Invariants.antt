use Rattle.std.proofs.Common.{◌≡◌, map, take}
use Rattle.toml.specs.View.{view}
use Rattle.bp_hotelfile.specs.Nights.{night_table}
use Rattle.bp_hotelfile.proofs.nights.night_tables.Given as goal

-- the values before this one are read
abbrev pub invariant-loop-value : goal.invariant-loop-value
invariant-loop-value l = l.tables.items ≡ map (λ v. night_table (view v)) (take l.value-index l.values)
