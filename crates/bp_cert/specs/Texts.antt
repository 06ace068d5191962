-- The texts of problems and certificates, line by line.
use Rattle.std.specs.Prelude.{ℕ, ◌<◌, ◌≤◌, List, [], ◌∷◌, ◌++◌, length, map, slice_index, All, codes}
use Rattle.bp_types.specs.declared.stay.Stay.{Stay}
use Rattle.bp_types.specs.Program.{Program}
use Rattle.bp_types.specs.Limits.{IsWithinLimits}
use Rattle.bp_types.specs.declared.limits.TheConstants.{MOST_NIGHTS, MOST_STAYS, MOST_ROOMS, MOST_RATE, MOST_FORECAST, MOST_VALUE}
use Rattle.bp_types.specs.Claim.{Claim}
use Rattle.bp_text.specs.Lines.{Line, line_of, text_of}

-- the numbers of a stay: its first night, the night after its last, its rate and its forecast
abbrev pub stay_numbers : Stay → List ℕ
stay_numbers s = s.span.from ∷ s.span.to ∷ s.rate ∷ s.forecast ∷ []

-- the line of a stay
abbrev pub stay_line : Stay → Line
stay_line s = line_of (codes "stay") (stay_numbers s)

-- the lines of a problem before its stays, of which there are so many
abbrev pub head_lines : List ℕ → ℕ → List Line
head_lines rooms stays =
    codes "problem 1" ∷ line_of (codes "nights") (length rooms ∷ []) ∷ line_of (codes "rooms") rooms
    ∷ line_of (codes "stays") (stays ∷ []) ∷ []

-- the lines of the stays, and the last line
abbrev pub stay_lines : List Stay → List Line
stay_lines stays = map stay_line stays ++ codes "end" ∷ []

-- the lines of a problem
abbrev pub problem_lines : Program → List Line
problem_lines p = head_lines p.rooms (length p.stays) ++ stay_lines p.stays

-- a problem keeps to the limits of an instance, and has no more rooms on a night than a house
pub record IsProblem (p : Program) : Type 0 where
  pub limits : IsWithinLimits p
  pub rooms : All (λ r. r ≤ MOST_ROOMS) p.rooms

-- the lines of a certificate between its first and its last
abbrev pub claim_lines : Claim → List Line
claim_lines c =
    line_of (codes "value") (c.value ∷ []) ∷ line_of (codes "sell") c.sell ∷ line_of (codes "prices") c.prices ∷ []

-- the lines of a certificate
abbrev pub all_certificate_lines : Claim → List Line
all_certificate_lines c = codes "certificate 1" ∷ (claim_lines c ++ codes "end" ∷ [])

-- a number that fits a machine word
abbrev pub IsWord : ℕ → Type 0
IsWord n = n ≤ 18446744073709551615

-- what a certificate's text can say
pub record IsSpeakable (c : Claim) : Type 0 where
  pub value : c.value ≤ MOST_VALUE
  pub stays : length c.sell ≤ MOST_STAYS
  pub nights : length c.prices ≤ MOST_NIGHTS
  pub sell : All IsWord c.sell
  pub prices : All IsWord c.prices

-- the text of a problem
abbrev pub problem_text : Program → List ℕ
problem_text p = text_of (problem_lines p)

-- the text of a certificate
abbrev pub certificate_text : Claim → List ℕ
certificate_text c = text_of (all_certificate_lines c)

-- the numbers of a line are those of a stay within so many nights and within the limits
pub record IsStayWithin (nights : ℕ) (numbers : List ℕ) : Type 0 where
  pub some : slice_index numbers 0 < slice_index numbers 1
  pub inside : slice_index numbers 1 ≤ nights
  pub rate : 1 ≤ slice_index numbers 2
  pub small_rate : slice_index numbers 2 ≤ MOST_RATE
  pub forecast : slice_index numbers 3 ≤ MOST_FORECAST

-- stays within so many nights and within the limits
abbrev pub AreStaysWithin : ℕ → List Stay → Type 0
AreStaysWithin nights stays = All (λ s. IsStayWithin nights (stay_numbers s)) stays

-- what is known of a problem before its stays
pub record IsHead (rooms : List ℕ) (stays : ℕ) : Type 0 where
  pub some_night : 1 ≤ length rooms
  pub nights : length rooms ≤ MOST_NIGHTS
  pub few_rooms : All (λ r. r ≤ MOST_ROOMS) rooms
  pub few_stays : stays ≤ MOST_STAYS
