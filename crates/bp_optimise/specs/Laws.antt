-- Laws over the definitions.
use Rattle.std.specs.Prelude.{◌≡◌, ℕ}
use Rattle.bp_types.specs.House.{Inn, opening}
use Rattle.bp_flow.specs.Solving.{Solving}
use Rattle.bp_core.specs.declared.call.Answer.TheVariants.{Superseded}
use Rattle.bp_core.specs.Lines.{History}
use Rattle.bp_core.specs.Counting.{IsFollowed}
use Rattle.bp_desk.specs.Passes.{PassState}
use Rattle.bp_optimise.specs.Following.{GoesWith}
use Rattle.bp_optimise.specs.Rounds.{HasOffered}

-- an optimiser at position 0 goes with whatever a pass of its house has seen
abbrev pub NewGoes : Type 0
NewGoes = (house : Inn) (seen : History) (solver : Solving) → solver.flow.program ≡ opening house →
    GoesWith house seen (record { solver = solver; position = 0 })

-- a round is superseded only where a vector stands at a place from the length at its first turn on
abbrev pub SupersededIsFollowed : Type 0
SupersededIsFollowed = (old new : PassState) (position least p changes : ℕ) → HasOffered old new position least (Superseded p changes) →
    IsFollowed new.seen position
