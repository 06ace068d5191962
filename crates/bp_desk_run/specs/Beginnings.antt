-- How a run begins.
use Rattle.std.specs.Prelude.{◌≡◌, ℕ, zero, suc, [], ◌∷◌, ◌++◌}
use Rattle.bp_types.specs.Program.{Program}
use Rattle.bp_types.specs.House.{Inn, opening}
use Rattle.bp_core.specs.declared.line.Act.TheVariants.{Publish}
use Rattle.bp_core.specs.declared.line.Line.{Line}
use Rattle.bp_core.specs.declared.line.Reply.TheVariants.{Done}
use Rattle.bp_core.specs.declared.call.Call.TheVariants.{Enrol}
use Rattle.bp_core.specs.Lines.{History}
use Rattle.bp_core.specs.Acting.{line_of}
use Rattle.bp_optimise.specs.Following.{Optimising, GoesWith}
use Rattle.bp_optimise.specs.Vectors.{IsLeastVector}

-- the opener's vector, and the Enrols of the callers from 1 to a number, in order
abbrev pub first_lines : Line → ℕ → History
first_lines opening zero = opening ∷ []
first_lines opening (suc n) = first_lines opening n ++ line_of (suc n) Enrol Done ∷ []

-- the opener's first vector, with the least prices of the house as it opens
pub record OpensWith (house : Inn) (x : Line) : Type 0 where
  pub by : x.entry.caller ≡ 0
  pub at_start : x.entry.act ≡ Publish 0
  pub vector : IsLeastVector house 0 [] x

-- an optimiser that starts from a program: it goes with whatever a pass has seen of a house that opens so
abbrev pub StartsFrom : Program → Optimising → Type 0
StartsFrom p o = (house : Inn) (seen : History) → p ≡ opening house → GoesWith house seen o
