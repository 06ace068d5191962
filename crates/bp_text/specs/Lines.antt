-- Lines of a text: a word, and numbers behind it.
use Rattle.std.specs.Prelude.{◌≡◌, ◌≢◌, ℕ, ◌+◌, List, [], ◌∷◌, ◌++◌, All}
use Rattle.std.specs.List.{flat_map}
use Rattle.bp_text.specs.Numbers.{spelled}

-- a line without its end
abbrev pub Line : Type 0
Line = List ℕ

-- the lines, each with its end behind it, the byte 10
abbrev pub text_of : List Line → List ℕ
text_of lines = flat_map (λ line. line ++ 10 ∷ []) lines

-- there is no line's end in these bytes
abbrev pub HasNoEnd : List ℕ → Type 0
HasNoEnd bytes = All (λ b. b ≢ 10) bytes

-- each number behind one space
abbrev pub numbers_text : List ℕ → List ℕ
numbers_text numbers = flat_map (λ n. 32 ∷ spelled n) numbers

-- a word, and numbers behind it
abbrev pub line_of : List ℕ → List ℕ → Line
line_of word numbers = word ++ numbers_text numbers

-- what contracts see of lines that are given one by one: the whole text, how many were given, and what is left of it
pub record Given : Type 0 where
  pub bytes : List ℕ
  pub given : ℕ
  pub rest : List ℕ

-- one line was given
pub record GivesLine (old new : Given) (line : Line) : Type 0 where
  pub bytes : new.bytes ≡ old.bytes
  pub given : new.given ≡ old.given + 1
  pub rest : old.rest ≡ line ++ 10 ∷ new.rest
  pub no_end : HasNoEnd line
