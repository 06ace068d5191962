-- Laws over texts.
use Rattle.std.specs.Prelude.{◌≡◌, ◌≢◌, ℕ, List, ◌∷◌, ◌++◌, Result, Err}
use Rattle.bp_text.specs.declared.text_error.TextError.{TextError}
use Rattle.bp_text.specs.declared.text_error.TextError.TheVariants.{Memory}
use Rattle.bp_text.specs.Lines.{Line, text_of}
use Rattle.bp_text.specs.Reading.{IsText}

-- no two values have one text
abbrev pub HasOneSpelling : {V : Type 0} → (V → List Line) → Type 0
HasOneSpelling {V} lines = (v w : V) → text_of (lines v) ≡ text_of (lines w) → v ≡ w

-- no text goes on behind another
abbrev pub IsPrefixFree : {V : Type 0} → (V → List Line) → Type 0
IsPrefixFree {V} lines = (v w : V) (byte : ℕ) (more : List ℕ) → text_of (lines w) ≢ text_of (lines v) ++ byte ∷ more

-- bytes are read in one way, want of memory apart
abbrev pub IsReadOneWay : {V : Type 0} → (V → List Line) → (V → Type 0) → Type 0
IsReadOneWay {V} lines Within =
    (bytes : List ℕ) (a b : Result V TextError) → a ≢ Err Memory → b ≢ Err Memory → IsText lines Within bytes a → IsText lines Within bytes b → a ≡ b
