-- The value of a certificate fits a machine word.
use Rattle.std.proofs.Common.{◌≡◌, ℕ, zero, suc, ◌*◌, ◌^◌, ◌<◌, ◌≤◌, arith, refl, subst, Option, List, length, slice_index}
use Rattle.std.proofs.lemmas.Nat.{mul-le}
use Rattle.bp_types.specs.Sums.{sum_below}
use Rattle.bp_types.specs.Program.{Program, stay_at}
use Rattle.bp_types.specs.declared.stay.Stay.{Stay}
use Rattle.bp_types.specs.Claim.{Claim, IsLeastCertificate}
use Rattle.bp_types.specs.declared.refusal.InstanceError.{InstanceError}
use Rattle.bp_types.specs.Limits.{refusal, IsWithinLimits}
use Rattle.bp_types.specs.Program.{no_stay}

sum_of_small : (f : ℕ → ℕ) (n : ℕ) → ((k : ℕ) → k < n → f k ≤ 1000000000000000) → sum_below f n ≤ 1000000000000000 * n
sum_of_small f zero small = omega arith
sum_of_small f (suc n) small = omega (arith, sum_of_small f n (λ k h. small k (omega arith)), small n (omega arith))

pub value_fits : (p : Program) (c : Claim) → IsWithinLimits p → IsLeastCertificate p c → c.value < 2 ^ 64
value_fits p c limits least =
    let term : (j : ℕ) → j < length p.stays → (stay_at p j).rate * slice_index c.sell j ≤ 1000000000000000 =
    λ j h.
    let sold = least.certifies.feasible.within_forecast j h in
    let few = limits.forecasts j no_stay h in
    let rate = limits.rates j no_stay h in
    mul-le (stay_at p j).rate (slice_index c.sell j) 1000000000 1000000 rate.1 (omega (arith, sold, few)) in
    omega (arith, sum_of_small (λ j. (stay_at p j).rate * slice_index c.sell j) (length p.stays) term, limits.stays, least.certifies.worth_is)

-- a program is its rooms and its stays
program_is : (p : Program) (rooms : List ℕ) (stays : List Stay) → p.rooms ≡ rooms → p.stays ≡ stays → p ≡ record { rooms = rooms; stays = stays }
program_is p rooms stays r s =
    let P : List ℕ → Type 0 = λ x. p ≡ record { rooms = x; stays = p.stays } in
    let Q : List Stay → Type 0 = λ x. p ≡ record { rooms = rooms; stays = x } in
    subst Q s (subst P r refl)

pub solved_numbers : (p : Program) (rooms : List ℕ) (stays : List Stay) (c : Claim) → p.rooms ≡ rooms → p.stays ≡ stays → IsWithinLimits p →
    IsLeastCertificate p c →
    IsLeastCertificate (record { rooms = rooms; stays = stays }) c × (c.value < 2 ^ 64)
solved_numbers p rooms stays c r s limits least =
    let P : Program → Type 0 = λ q. IsLeastCertificate q c in
    (subst P (program_is p rooms stays r s) least, value_fits p c limits least)

pub same_refusal : (r rooms : List ℕ) (s stays : List Stay) (o : Option InstanceError) → r ≡ rooms → s ≡ stays → refusal r s ≡ o → refusal rooms stays ≡ o
same_refusal r rooms s stays o a b is =
    let P : List ℕ → Type 0 = λ x. refusal x s ≡ o in
    let Q : List Stay → Type 0 = λ x. refusal rooms x ≡ o in
    subst Q b (subst P a is)
