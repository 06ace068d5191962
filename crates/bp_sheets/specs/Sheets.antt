-- The text of a sheet.
use Rattle.std.specs.Prelude.{◌≡◌, ℕ, ◌+◌, List, [], ◌∷◌, ◌++◌, codes, Option, None, Some, Result, Err, Ok, ◌⊎◌}
use Rattle.bp_types.specs.Program.{Program}
use Rattle.bp_edges.specs.declared.sink.WriteError.{WriteError}
use Rattle.bp_edges.specs.declared.sink.WriteError.TheVariants.{Memory}
use Rattle.bp_edges.specs.Writing.{Writes}
use Rattle.bp_text.specs.Numbers.{spelled}
use Rattle.bp_text.specs.Lines.{Line, numbers_text, text_of}
use Rattle.bp_sheets.specs.declared.band.Band.{Band}
use Rattle.bp_sheets.specs.Bands.{IsPriced}
use Rattle.bp_sheets.specs.Lengths.{AreLeastLengths, hurdles}

-- an amount of money, or a dash where there is none
abbrev pub amount_text : Option ℕ → List ℕ
amount_text None = codes "-"
amount_text (Some n) = spelled n

-- `night N price P gain G loss L`
abbrev pub night_line : ℕ → Band → Line
night_line night band =
    (codes "night " ++ spelled night) ++ (codes " price " ++ spelled band.price) ++ (codes " gain " ++ amount_text band.gain) ++
    (codes " loss " ++ amount_text band.loss)

-- how long a stay has to be, or that the arrival is closed
abbrev pub least_text : Option ℕ → List ℕ
least_text None = codes " closed"
least_text (Some nights) = codes " least " ++ spelled nights

-- `arrival A least K hurdles h1 h2 ..`
abbrev pub arrival_line : ℕ → Option ℕ → List ℕ → Line
arrival_line night least prices = (codes "arrival " ++ spelled night) ++ least_text least ++ codes " hurdles" ++ numbers_text prices

-- a line for each band, from a night on
abbrev pub night_lines : ℕ → List Band → List Line
night_lines night [] = []
night_lines night (band ∷ bands) = night_line night band ∷ night_lines (night + 1) bands

-- a line for each least length, from an arrival on
abbrev pub arrival_lines : List ℕ → ℕ → List (Option ℕ) → List Line
arrival_lines prices night [] = []
arrival_lines prices night (least ∷ lengths) = arrival_line night least (hurdles prices night) ∷ arrival_lines prices (night + 1) lengths

-- the bands of the nights, and then the least length and the hurdles of each arrival
pub record IsSheet (p : Program) (text : List ℕ) : Type 0 where
  pub prices : List ℕ
  pub bands : List Band
  pub lengths : List (Option ℕ)
  pub priced : IsPriced p prices bands
  pub shortest : AreLeastLengths p prices lengths
  pub text_is : text ≡ text_of (night_lines 0 bands) ++ text_of (arrival_lines prices 0 lengths)

-- the sheet is written, or a first part of it where that was refused; without memory for it, nothing is
abbrev pub WritesSheet : Program → Option (List ℕ) → Option (List ℕ) → Result (Unit {0}) WriteError → Type 0
WritesSheet p before now result = ((text : List ℕ) × IsSheet p text × Writes before now text result) ⊎ ((result ≡ Err Memory) × (now ≡ before))
