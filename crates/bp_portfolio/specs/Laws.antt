-- Laws over lists of hotels.
use Rattle.std.specs.Prelude.{◌≡◌, ◌≢◌, ℕ, List, Result, Err}
use Rattle.bp_text.specs.declared.text_error.TextError.{TextError}
use Rattle.bp_text.specs.declared.text_error.TextError.TheVariants.{Memory}
use Rattle.bp_portfolio.specs.Lists.{FiveNames, IsListText}

-- bytes are read as a list in one way, want of memory apart
abbrev pub OneReading : Type 0
OneReading =
    (bytes : List ℕ) (a b : Result (List FiveNames) TextError) → a ≢ Err Memory → b ≢ Err Memory → IsListText bytes a → IsListText bytes b → a ≡ b
