-- The numbers on a line, found from left to right.
use Rattle.std.specs.Prelude.{◌≡◌, ◌≢◌, ℕ, ◌<◌, ◌≤◌, ◌⊎◌, List, [], ◌∷◌, ◌++◌, length, All, Result, Ok, Err}
use Rattle.bp_text.specs.declared.found.Found.{Found}
use Rattle.bp_text.specs.declared.found.Found.TheVariants.{Bad, Great, Whole}
use Rattle.bp_text.specs.declared.found.Bounds.{Bounds}
use Rattle.bp_text.specs.declared.text_error.TextError.{TextError}
use Rattle.bp_text.specs.declared.text_error.TextError.TheVariants.{BadLine, Limit, TooShort, Trailing, Memory}
use Rattle.bp_text.specs.declared.found.Number.{Number}
use Rattle.bp_text.specs.declared.found.Number.TheVariants.{Bad as BadNumber, Great as GreatNumber, Value}
use Rattle.bp_text.specs.Lines.{Line, Given, GivesLine, HasNoEnd, line_of}

-- not too many numbers, and none too great
abbrev pub AreWithin : Bounds → List ℕ → Type 0
AreWithin bounds numbers = (length numbers ≤ bounds.most) × All (λ n. n ≤ bounds.greatest) numbers

-- what is found in bytes that may spell numbers: that they spell none, or so many that are not within the bounds, or these
abbrev pub IsFound : (List ℕ → List ℕ) → List ℕ → Bounds → List ℕ → Found → Type 0
IsFound spell bytes bounds numbers Bad = (ns : List ℕ) → bytes ≢ spell ns
IsFound spell bytes bounds numbers (Great count) = (ns : List ℕ) × (bytes ≡ spell ns) × (length ns ≡ count) × (AreWithin bounds ns → ⊥)
IsFound spell bytes bounds numbers Whole = (bytes ≡ spell numbers) × AreWithin bounds numbers

-- nothing, or a space and more
abbrev pub IsEndOrSpace : List ℕ → Type 0
IsEndOrSpace bytes = (bytes ≡ []) ⊎ ((more : List ℕ) × (bytes ≡ 32 ∷ more))

-- a space, a word, and what stands behind the word
pub record IsWordAhead (text word more : List ℕ) : Type 0 where
  pub splits : text ≡ 32 ∷ word ++ more
  pub no_space : All (λ b. b ≢ 32) word
  pub ends : IsEndOrSpace more

-- a number was put behind the others, where there is room for one more
abbrev pub IsKept : Bounds → ℕ → List ℕ → List ℕ → Type 0
IsKept bounds value old new =
    ((length old < bounds.most) × (new ≡ old ++ value ∷ [])) ⊎ ((bounds.most ≤ length old) × (new ≡ old))

-- the line is no word and numbers in the form
pub record IsBadLine (word : List ℕ) (Form : List ℕ → Type 0) (old new : Given) (place : ℕ) : Type 0 where
  pub line : Line
  pub gives : GivesLine old new line
  pub wrong : (ns : List ℕ) → Form ns → line ≢ line_of word ns
  pub counted : place ≡ new.given

-- the line is a word and numbers in the form, and they are not fine
pub record IsBeyond (word : List ℕ) (Form Fine : List ℕ → Type 0) (old new : Given) (place : ℕ) : Type 0 where
  pub numbers : List ℕ
  pub form : Form numbers
  pub outside : Fine numbers → ⊥
  pub gives : GivesLine old new (line_of word numbers)
  pub counted : place ≡ new.given

-- the next line is a word and numbers in a form, and they are fine; or why not
abbrev pub IsLine : List ℕ → (List ℕ → Type 0) → (List ℕ → Type 0) → Given → Given → Result (List ℕ) TextError → Type 0
IsLine word Form Fine old new (Ok numbers) = Form numbers × Fine numbers × GivesLine old new (line_of word numbers)
IsLine word Form Fine old new (Err (BadLine place)) = IsBadLine word Form old new place
IsLine word Form Fine old new (Err (Limit place)) = IsBeyond word Form Fine old new place
IsLine word Form Fine old new (Err TooShort) = (new ≡ old) × HasNoEnd old.rest
IsLine word Form Fine old new (Err (Trailing place)) = ⊥
IsLine word Form Fine old new (Err Memory) = (line : Line) × GivesLine old new line

-- a list in the place of an Ok that says nothing
abbrev pub holding : List ℕ → Result (Unit {0}) TextError → Result (List ℕ) TextError
holding numbers (Ok nothing) = Ok numbers
holding numbers (Err e) = Err e

-- what is read of the one number behind a word
abbrev pub IsNumberBehind : List ℕ → Line → ℕ → Number → Type 0
IsNumberBehind word line greatest BadNumber = (n : ℕ) → line ≢ line_of word (n ∷ [])
IsNumberBehind word line greatest GreatNumber = (n : ℕ) × (greatest < n) × (line ≡ line_of word (n ∷ []))
IsNumberBehind word line greatest (Value n) = (n ≤ greatest) × (line ≡ line_of word (n ∷ []))
