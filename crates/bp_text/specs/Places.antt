-- A place in a text, behind the lines before it, at which lines of one or of several forms may stand.
use Rattle.std.specs.Prelude.{◌≡◌, List, ◌∷◌, ◌++◌, All}
use Rattle.bp_text.specs.declared.text_error.TextError.{TextError}
use Rattle.bp_text.specs.declared.text_error.TextError.TheVariants.{BadLine, Limit, TooShort, Trailing, Memory}
use Rattle.bp_text.specs.Lines.{Line, Given, GivesLine, HasNoEnd}
use Rattle.bp_text.specs.Reading.{Begins, HasForm}

-- behind these lines a text goes on with a line of the form, and within the limits it is fine
pub record IsPlace {V : Type 0} (lines : V → List Line) (Within : V → Type 0) (front : List Line) (Form Fine : Line → Type 0) : Type 0 where
  pub no_ends : (v : V) → All HasNoEnd (lines v)
  pub begins : Begins lines Within front
  pub form : (v : V) (line : Line) (more : List Line) → lines v ≡ front ++ line ∷ more → Form line
  pub some : (line : Line) → Form line → HasForm lines front line
  pub fine : (v : V) (line : Line) (more : List Line) → Within v → lines v ≡ front ++ line ∷ more → Fine line

-- why the next line is refused
abbrev pub IsRefusedLine : (Line → Type 0) → (Line → Type 0) → Given → Given → TextError → Type 0
IsRefusedLine Form Fine old new (BadLine place) = (line : Line) × GivesLine old new line × (Form line → ⊥) × (place ≡ new.given)
IsRefusedLine Form Fine old new (Limit place) = (line : Line) × GivesLine old new line × Form line × (Fine line → ⊥) × (place ≡ new.given)
IsRefusedLine Form Fine old new TooShort = (new ≡ old) × HasNoEnd old.rest
IsRefusedLine Form Fine old new (Trailing place) = ⊥
IsRefusedLine Form Fine old new Memory = (line : Line) × GivesLine old new line
