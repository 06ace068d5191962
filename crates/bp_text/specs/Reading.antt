-- How a text of lines is read: whole, or refused at its first wrong line.
--
-- A kind of text is given by the lines that spell a value, and by the limits that the value has to keep. Nothing else
-- is said of it: which lines may stand in a place, and which of them keep to the limits, follows from the texts of all
-- values.
use Rattle.std.specs.Prelude.{◌≡◌, ℕ, ◌+◌, List, [], ◌∷◌, ◌++◌, length, All, Result, Ok, Err}
use Rattle.bp_text.specs.declared.text_error.TextError.{TextError}
use Rattle.bp_text.specs.declared.text_error.TextError.TheVariants.{BadLine, Limit, TooShort, Trailing, Memory}
use Rattle.bp_text.specs.Lines.{Line, text_of, HasNoEnd, Given}

-- an answer, with its value seen in another way
abbrev pub seen_as : {X Y : Type 0} → (X → Y) → Result X TextError → Result Y TextError
seen_as view (Ok x) = Ok (view x)
seen_as view (Err e) = Err e

-- these lines begin a text of the kind, and it goes on
abbrev pub Begins : {V : Type 0} → (V → List Line) → (V → Type 0) → List Line → Type 0
Begins {V} lines Within front = (v : V) × (line : Line) × (more : List Line) × Within v × (lines v ≡ front ++ line ∷ more)

-- after these lines the line has the form of the one that stands there, its numbers apart
abbrev pub HasForm : {V : Type 0} → (V → List Line) → List Line → Line → Type 0
HasForm {V} lines front line = (v : V) × (more : List Line) × (lines v ≡ front ++ line ∷ more)

-- after these lines the line is one that stands there, and its numbers keep to the limits
abbrev pub IsRight : {V : Type 0} → (V → List Line) → (V → Type 0) → List Line → Line → Type 0
IsRight {V} lines Within front line = (v : V) × (more : List Line) × Within v × (lines v ≡ front ++ line ∷ more)

-- where a reader stands after lines of a text: behind them, and with their number more given
pub record GivesLines (old new : Given) (lines : List Line) (rest : List ℕ) : Type 0 where
  pub bytes : new.bytes ≡ old.bytes
  pub given : new.given ≡ old.given + length lines
  pub splits : old.rest ≡ text_of lines ++ rest

-- the lines of a value that keeps to the limits
pub record Spells {V : Type 0} (lines : V → List Line) (Within : V → Type 0) (old new : Given) (v : V) : Type 0 where
  pub within : Within v
  pub gives : GivesLines old new (lines v) new.rest

-- right lines, and then one that has not the form of its place
pub record BreaksForm {V : Type 0} (lines : V → List Line) (Within : V → Type 0) (old new : Given) (place : ℕ) : Type 0 where
  pub front : List Line
  pub line : Line
  pub begins : Begins lines Within front
  pub wrong : HasForm lines front line → ⊥
  pub no_end : HasNoEnd line
  pub gives : GivesLines old new (front ++ line ∷ []) new.rest
  pub counted : place ≡ new.given

-- right lines, and then one that has the form of its place and does not keep to the limits
pub record BreaksLimit {V : Type 0} (lines : V → List Line) (Within : V → Type 0) (old new : Given) (place : ℕ) : Type 0 where
  pub front : List Line
  pub line : Line
  pub begins : Begins lines Within front
  pub form : HasForm lines front line
  pub outside : IsRight lines Within front line → ⊥
  pub no_end : HasNoEnd line
  pub gives : GivesLines old new (front ++ line ∷ []) new.rest
  pub counted : place ≡ new.given

-- right lines, and then a line without its end
pub record EndsShort {V : Type 0} (lines : V → List Line) (Within : V → Type 0) (old new : Given) : Type 0 where
  pub front : List Line
  pub begins : Begins lines Within front
  pub gives : GivesLines old new front new.rest
  pub no_end : HasNoEnd new.rest

-- what a reader answers to lines that are to spell a value, and where it stands then
abbrev pub IsReading : {V : Type 0} → (V → List Line) → (V → Type 0) → Given → Given → Result V TextError → Type 0
IsReading lines Within old new (Ok v) = Spells lines Within old new v
IsReading lines Within old new (Err (BadLine place)) = BreaksForm lines Within old new place
IsReading lines Within old new (Err (Limit place)) = BreaksLimit lines Within old new place
IsReading lines Within old new (Err TooShort) = EndsShort lines Within old new
IsReading lines Within old new (Err (Trailing place)) = ⊥
IsReading lines Within old new (Err Memory) = (front : List Line) × All HasNoEnd front × GivesLines old new front new.rest

-- before the first line
abbrev pub start_of : List ℕ → Given
start_of bytes = record { bytes = bytes; given = 0; rest = bytes }

-- more bytes stand behind the text of a value
pub record IsTrailed {V : Type 0} (lines : V → List Line) (Within : V → Type 0) (bytes : List ℕ) (place : ℕ) : Type 0 where
  pub value : V
  pub within : Within value
  pub byte : ℕ
  pub more : List ℕ
  pub trails : bytes ≡ text_of (lines value) ++ byte ∷ more
  pub counted : place ≡ length (lines value) + 1

-- what is read of the whole bytes of a text: its value, or the first wrong line
abbrev pub IsText : {V : Type 0} → (V → List Line) → (V → Type 0) → List ℕ → Result V TextError → Type 0
IsText lines Within bytes (Ok v) = Within v × (bytes ≡ text_of (lines v))
IsText lines Within bytes (Err (BadLine place)) = (end : Given) × BreaksForm lines Within (start_of bytes) end place
IsText lines Within bytes (Err (Limit place)) = (end : Given) × BreaksLimit lines Within (start_of bytes) end place
IsText lines Within bytes (Err TooShort) = (end : Given) × EndsShort lines Within (start_of bytes) end
IsText lines Within bytes (Err (Trailing place)) = IsTrailed lines Within bytes place
IsText lines Within bytes (Err Memory) = Unit {0}
