-- What a bench knows of a pass is kept by each call.
use Rattle.std.proofs.Common.{◌≡◌, ℕ, ap, ◌∙◌, List}
use Rattle.atomic_table.specs.Seated.{TableId}
use Rattle.bp_types.specs.House.{Inn}
use Rattle.bp_core.specs.declared.call.Call.{Call}
use Rattle.bp_core.specs.declared.call.Call.TheVariants.{Enrol}
use Rattle.bp_core.specs.declared.call.Answer.{Answer}
use Rattle.bp_desk.specs.Passes.{PassState, newcomer}
use Rattle.bp_desk.specs.Calling.{IsCalled}
use Rattle.bp_bench_desk.specs.Passing.{IsPassOf}

-- a pass that has the same desk and house
keeps : (desk : TableId) (house : Inn) (old new : PassState) →
    IsPassOf desk house old → new.desk ≡ old.desk → new.house ≡ old.house → IsPassOf desk house new
keeps desk house old new at same home = record { desk_is = same ∙ at.desk_is; house_is = home ∙ at.house_is }

-- one that made a call
pub by_call : (desk : TableId) (house : Inn) (old new : PassState) (call : Call) (answer : Answer) →
    IsPassOf desk house old → IsCalled old new call answer → IsPassOf desk house new
by_call desk house old new call answer at c =
    keeps desk house old new at (ap (λ (p : PassState). p.desk) c.pass) (ap (λ (p : PassState). p.house) c.pass)

-- a newcomer's, that was enrolled
pub by_enrolment : (desk : TableId) (house : Inn) (opener new : PassState) (n : ℕ) (answer : Answer) →
    IsPassOf desk house opener → IsCalled (newcomer opener n) new Enrol answer → IsPassOf desk house new
by_enrolment desk house opener new n answer at c =
    by_call desk house (newcomer opener n) new Enrol answer (record { desk_is = at.desk_is; house_is = at.house_is }) c

-- the opener, that handed a number out
pub by_handing : (desk : TableId) (house : Inn) (old new : PassState) (rest : List ℕ) →
    IsPassOf desk house old → new ≡ record old { free = rest } → IsPassOf desk house new
by_handing desk house old new rest at e =
    keeps desk house old new at (ap (λ (p : PassState). p.desk) e) (ap (λ (p : PassState). p.house) e)
