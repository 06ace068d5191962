-- What each verdict says.
use Rattle.std.specs.Prelude.{◌≡◌, ◌≢◌, ℕ, ◌≤◌, ◌<◌, length, slice_index}
use Rattle.bp_types.specs.Program.{Program, stay_at, load, worth, bound}
use Rattle.bp_types.specs.Claim.{Claim}
use Rattle.bp_types.specs.declared.limits.TheConstants.{MOST_PRICE}
use Rattle.bp_types.specs.Optimum.{Certifies, IsOptimum}
use Rattle.bp_cert.specs.declared.verdict.Verdict.{Verdict}
use Rattle.bp_cert.specs.declared.verdict.Verdict.TheVariants.{WrongLength, PriceTooGreat, AboveForecast, Overfull, Gap, Misvalued, Optimal}

-- no value passes its limit, below n
abbrev pub NoneAbove : (ℕ → ℕ) → (ℕ → ℕ) → ℕ → Type 0
NoneAbove limit value n = (k : ℕ) → k < n → value k ≤ limit k

-- i is the first place below n whose value passes its limit
pub record IsFirstAbove (limit value : ℕ → ℕ) (n i : ℕ) : Type 0 where
  pub in_range : i < n
  pub above : limit i < value i
  pub first : NoneAbove limit value i

-- one number for each stay, and one price for each night
abbrev pub HasLengths : Program → Claim → Type 0
HasLengths p c = (length c.sell ≡ length p.stays) × (length c.prices ≡ length p.rooms)

-- no price above the greatest one, on the first n nights
abbrev pub PricesWithin : Claim → ℕ → Type 0
PricesWithin c n = NoneAbove (λ _. MOST_PRICE) (slice_index c.prices) n

-- no stay sold above its forecast, of the first n
abbrev pub SalesWithin : Program → Claim → ℕ → Type 0
SalesWithin p c n = NoneAbove (λ j. (stay_at p j).forecast) (slice_index c.sell) n

-- no night overfull, of the first n
abbrev pub LoadsWithin : Program → Claim → ℕ → Type 0
LoadsWithin p c n = NoneAbove (slice_index p.rooms) (load p c.sell) n

-- what each verdict says: the tests before it hold, and it names the first place that fails its own
abbrev pub IsVerdict : Program → Claim → Verdict → Type 0
IsVerdict p c WrongLength = HasLengths p c → ⊥
IsVerdict p c (PriceTooGreat night) =
    HasLengths p c × IsFirstAbove (λ _. MOST_PRICE) (slice_index c.prices) (length p.rooms) night
IsVerdict p c (AboveForecast stay) =
    HasLengths p c × PricesWithin c (length p.rooms)
    × IsFirstAbove (λ j. (stay_at p j).forecast) (slice_index c.sell) (length p.stays) stay
IsVerdict p c (Overfull night taken) =
    HasLengths p c × PricesWithin c (length p.rooms) × SalesWithin p c (length p.stays)
    × IsFirstAbove (slice_index p.rooms) (load p c.sell) (length p.rooms) night × (taken ≡ load p c.sell night)
IsVerdict p c (Gap value over) =
    HasLengths p c × PricesWithin c (length p.rooms) × SalesWithin p c (length p.stays) × LoadsWithin p c (length p.rooms)
    × (value ≡ worth p c.sell) × (over ≡ bound p c.prices) × (value ≢ over)
IsVerdict p c (Misvalued value) =
    HasLengths p c × PricesWithin c (length p.rooms) × SalesWithin p c (length p.stays) × LoadsWithin p c (length p.rooms)
    × (value ≡ worth p c.sell) × (value ≡ bound p c.prices) × (value ≢ c.value)
IsVerdict p c (Optimal value) = (value ≡ c.value) × Certifies p value c.sell c.prices

-- the value of the verdict Optimal is the optimum
abbrev pub SaysOptimum : Program → Verdict → Type 0
SaysOptimum p (Optimal value) = IsOptimum p value
SaysOptimum p WrongLength = Unit {0}
SaysOptimum p (PriceTooGreat night) = Unit {0}
SaysOptimum p (AboveForecast stay) = Unit {0}
SaysOptimum p (Overfull night taken) = Unit {0}
SaysOptimum p (Gap value over) = Unit {0}
SaysOptimum p (Misvalued value) = Unit {0}
