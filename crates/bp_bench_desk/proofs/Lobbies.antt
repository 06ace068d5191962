-- What a bench knows of a desk beside its screen is kept by each call.
use Rattle.std.proofs.Common.{◌≡◌, ℕ, List, length, ap, sym, ◌∙◌, Result}
use Rattle.std.proofs.lemmas.List.FromFn.{length-map-range_with_len}
use Rattle.atomic_table.specs.Seated.{TableId}
use Rattle.bp_types.specs.Claim.{Claim, IsCertificateOf}
use Rattle.bp_types.specs.House.{Inn, opening, units_left}
use Rattle.bp_types.specs.Program.{Program}
use Rattle.bp_core.specs.declared.call.Call.{Call}
use Rattle.bp_core.specs.declared.call.Answer.{Answer}
use Rattle.bp_desk.specs.declared.submitting.SubmitError.{SubmitError}
use Rattle.bp_desk.specs.Passes.{PassState}
use Rattle.bp_desk.specs.Calling.{HasRead, IsCalled}
use Rattle.bp_desk.specs.Submitting.{IsSubmitted}
use Rattle.bp_show.specs.Screens.{Display}
use Rattle.bp_bench_desk.specs.Lobbies.{IsLobby}

-- a certificate of a house as it opens has a price for each of its nights
pub opened_nights : (h : Inn) (c : Claim) → IsCertificateOf (opening h) c → length h.rooms ≡ length c.prices
opened_nights h c is = sym (is.one_each ∙ length-map-range_with_len (units_left h) 0 (length h.rooms))

-- a pass that has the same desk and house
keeps : (desk : TableId) (house : Inn) (start : Program) (old new : PassState) (screen : Display) →
    IsLobby desk house start old screen → new.desk ≡ old.desk → new.house ≡ old.house → IsLobby desk house start new screen
keeps desk house start old new screen at same home =
    record { at_desk = same ∙ at.at_desk; of_house = home ∙ at.of_house; starts = at.starts; nights = at.nights }

-- one that made a call
pub by_call : (desk : TableId) (house : Inn) (start : Program) (old new : PassState) (screen : Display) (call : Call) (answer : Answer) →
    IsLobby desk house start old screen → IsCalled old new call answer → IsLobby desk house start new screen
by_call desk house start old new screen call answer at c =
    keeps desk house start old new screen at (ap (λ (p : PassState). p.desk) c.pass) (ap (λ (p : PassState). p.house) c.pass)

-- one that looked at the length
pub by_reading : (desk : TableId) (house : Inn) (start : Program) (old new : PassState) (screen : Display) →
    IsLobby desk house start old screen → HasRead old new → IsLobby desk house start new screen
by_reading desk house start old new screen at r =
    keeps desk house start old new screen at (ap (λ (p : PassState). p.desk) r.pass) (ap (λ (p : PassState). p.house) r.pass)

-- one that submitted a certificate
pub by_submission : (desk : TableId) (house : Inn) (start : Program) (old new : PassState) (screen : Display) (position : ℕ)
    (certificate : Claim) (result : Result ℕ SubmitError) →
    IsLobby desk house start old screen → IsSubmitted old new position certificate result → IsLobby desk house start new screen
by_submission desk house start old new screen position certificate result at s =
    keeps desk house start old new screen at
    (ap (λ (p : PassState). p.desk) s.gone_on.pass) (ap (λ (p : PassState). p.house) s.gone_on.pass)
