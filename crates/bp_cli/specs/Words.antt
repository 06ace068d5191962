-- Words, names of files and numbers.
use Rattle.std.specs.Prelude.{◌≡◌, ◌≢◌, ℕ, ◌≤◌, List, [], ◌∷◌, length, map, String, string_bytes}
use Rattle.std.specs.Str.Parse.{IsNumeral, digits_value}
use Rattle.std.specs.declared.alloc.Global.{Global}

-- a word of a line, by its bytes
abbrev pub Word : Type 0
Word = List ℕ

-- the words of a line
abbrev pub texts : List (String Global) → List Word
texts words = map string_bytes words

-- a name that a file may have on a line: it is not empty, and does not begin with `-`
abbrev pub IsFileName : Word → Type 0
IsFileName [] = ⊥
IsFileName (first ∷ rest) = first ≢ 45

-- a number: 1 to 9 decimal digits
pub record IsNumber (word : Word) (n : ℕ) : Type 0 where
  pub digits : IsNumeral 10 word
  pub short : length word ≤ 9
  pub value : n ≡ digits_value 10 word
