-- What the tests know of a pass is kept by each call.
use Rattle.std.proofs.Common.{◌≡◌, ◌≤◌, ◌*◌, ℕ, ap, sym, subst, ◌∙◌, arith, length, Result, List}
use Rattle.atomic_table.specs.Seated.{TableId}
use Rattle.bp_types.specs.Claim.{Claim}
use Rattle.bp_types.specs.declared.command.Quoted.{Quoted}
use Rattle.bp_types.specs.declared.stay.Span.{Span}
use Rattle.bp_types.specs.Displacement.{IsDisplacement}
use Rattle.bp_types.specs.House.{Inn, opening}
use Rattle.bp_types.specs.Program.{Program}
use Rattle.bp_core.specs.declared.call.Call.{Call}
use Rattle.bp_core.specs.declared.call.Call.TheVariants.{Enrol}
use Rattle.bp_core.specs.declared.call.Answer.{Answer}
use Rattle.bp_core.specs.Instance.{instance_at}
use Rattle.bp_core.proofs.Growing.{instance_before_lines}
use Rattle.bp_desk.specs.declared.submitting.SubmitError.{SubmitError}
use Rattle.bp_desk.specs.Passes.{PassState, newcomer}
use Rattle.bp_desk.specs.Calling.{HasRead, IsCalled, joined}
use Rattle.bp_desk.specs.Submitting.{IsSubmitted}
use Rattle.bp_desk_tests.specs.Passing.{IsPassOf, IsOpeningQuote}

-- a pass that has the same desk and house
pub keeps : (desk : TableId) (house : Inn) (start : Program) (old new : PassState) → IsPassOf desk house start old → new.desk ≡ old.desk →
    new.house ≡ old.house → IsPassOf desk house start new
keeps desk house start old new at same home = record { desk_is = same ∙ at.desk_is; house_is = home ∙ at.house_is; start_is = at.start_is }

pub by_call : (desk : TableId) (house : Inn) (start : Program) (old new : PassState) (call : Call) (answer : Answer) → IsPassOf desk house start old →
    IsCalled old new call answer → IsPassOf desk house start new
by_call desk house start old new call answer at c =
    keeps desk house start old new at (ap (λ (p : PassState). p.desk) c.pass) (ap (λ (p : PassState). p.house) c.pass)

pub caller_by_call : (old new : PassState) (call : Call) (answer : Answer) → IsCalled old new call answer → new.caller ≡ old.caller
caller_by_call old new call answer c = ap (λ (p : PassState). p.caller) c.pass

pub by_submission : (desk : TableId) (house : Inn) (start : Program) (old new : PassState) (position : ℕ) (certificate : Claim)
    (result : Result ℕ SubmitError) → IsPassOf desk house start old → IsSubmitted old new position certificate result → IsPassOf desk house start new
by_submission desk house start old new position certificate result at s =
    keeps desk house start old new at (ap (λ (p : PassState). p.desk) s.gone_on.pass) (ap (λ (p : PassState). p.house) s.gone_on.pass)

pub caller_by_submission : (old new : PassState) (position : ℕ) (certificate : Claim) (result : Result ℕ SubmitError) →
    IsSubmitted old new position certificate result → new.caller ≡ old.caller
caller_by_submission old new position certificate result s = ap (λ (p : PassState). p.caller) s.gone_on.pass

pub by_read : (desk : TableId) (house : Inn) (start : Program) (old new : PassState) → IsPassOf desk house start old → HasRead old new →
    IsPassOf desk house start new
by_read desk house start old new at r = keeps desk house start old new at (ap (λ (p : PassState). p.desk) r.pass) (ap (λ (p : PassState). p.house) r.pass)

pub by_enrolment : (desk : TableId) (house : Inn) (start : Program) (opener new : PassState) (n : ℕ) (answer : Answer) → IsPassOf desk house start opener →
    IsCalled (newcomer opener n) new Enrol answer → IsPassOf desk house start new
by_enrolment desk house start opener new n answer at c =
    by_call desk house start (newcomer opener n) new Enrol answer (record { desk_is = at.desk_is; house_is = at.house_is; start_is = at.start_is }) c

-- the opener, that handed a number out
pub by_handing : (desk : TableId) (house : Inn) (start : Program) (old new : PassState) (rest : List ℕ) → IsPassOf desk house start old →
    new ≡ record old { free = rest } → IsPassOf desk house start new
by_handing desk house start old new rest at e = keeps desk house start old new at (ap (λ (p : PassState). p.desk) e) (ap (λ (p : PassState). p.house) e)

pub by_joining : (desk : TableId) (house : Inn) (start : Program) (old new left : PassState) → IsPassOf desk house start old → new ≡ joined old left →
    IsPassOf desk house start new
by_joining desk house start old new left at e = keeps desk house start old new at (ap (λ (p : PassState). p.desk) e) (ap (λ (p : PassState). p.house) e)

-- a quote at position 0 is right for whatever has been seen
pub right_at_start : (desk : TableId) (house : Inn) (start : Program) (pass : PassState) (span : Span) (rooms : ℕ) (q : Quoted) →
    IsPassOf desk house start pass → IsOpeningQuote house.limits.unit start span rooms q
    → (q.position ≤ length pass.seen) × IsDisplacement (instance_at pass.house pass.seen q.position) span (pass.house.limits.unit * rooms) q.displacement
right_at_start desk house start pass span rooms q at o =
    let first = o.position_is in
    let there : start ≡ instance_at pass.house pass.seen q.position = at.start_is ∙ ap opening (sym at.house_is) ∙
    sym (instance_before_lines pass.house pass.seen) ∙ ap (instance_at pass.house pass.seen) (sym o.position_is) in (
      omega (arith, first),
      subst (λ p. IsDisplacement p span (pass.house.limits.unit * rooms) q.displacement) there
          (subst (λ (h : Inn). IsDisplacement start span (h.limits.unit * rooms) q.displacement) (sym at.house_is) o.displacement_is),
    )
