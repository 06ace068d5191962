-- What is answered to numbers.
use Rattle.std.specs.Prelude.{◌≡◌, ℕ, ◌^◌, ◌<◌, List, Some, None, Result, Ok, Err}
use Rattle.bp_types.specs.declared.stay.Stay.{Stay}
use Rattle.bp_types.specs.Claim.{Claim, IsLeastCertificate}
use Rattle.bp_types.specs.Limits.{refusal}
use Rattle.bp_c.specs.declared.numbers.Failure.{Failure}
use Rattle.bp_c.specs.declared.numbers.Failure.TheVariants.{Refused, Memory}

-- a certificate with the least prices whose numbers fit machine words, or the refusal
abbrev pub IsNumbersAnswer : List ℕ → List Stay → Result Claim Failure → Type 0
IsNumbersAnswer rooms stays (Ok claim) =
    IsLeastCertificate (record { rooms = rooms; stays = stays }) claim × (refusal rooms stays ≡ None) × (claim.value < 2 ^ 64)
IsNumbersAnswer rooms stays (Err (Refused error)) = refusal rooms stays ≡ Some error
IsNumbersAnswer rooms stays (Err Memory) = Unit {0}
