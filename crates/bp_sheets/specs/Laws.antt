-- Laws over bands and sheets.
use Rattle.std.specs.Prelude.{◌≡◌, ℕ, ◌≤◌, List, Some}
use Rattle.std.specs.Option.{ForSome}
use Rattle.bp_types.specs.Program.{Program}
use Rattle.bp_sheets.specs.declared.band.Band.{Band}
use Rattle.bp_sheets.specs.Bands.{AreBands}
use Rattle.bp_sheets.specs.Sheets.{IsSheet}
use Rattle.std.specs.Prelude.{slice_get}

-- in each band the price is at least the gain and at most the loss, where these are given
abbrev pub BandsHoldPrices : Type 0
BandsHoldPrices =
    (p : Program) (bands : List Band) (night : ℕ) (band : Band) → AreBands p bands → slice_get bands night ≡ Some band →
    ForSome band.gain (λ gain. gain ≤ band.price) × ForSome band.loss (λ loss. band.price ≤ loss)

-- a program has one sheet
abbrev pub SheetsAreUnique : Type 0
SheetsAreUnique = (p : Program) (a b : List ℕ) → IsSheet p a → IsSheet p b → a ≡ b
