-- Lines of a word and numbers.
use Rattle.std.specs.Prelude.{ℕ, List, [], ◌∷◌, ◌++◌}
use Rattle.std.specs.Fmt.{decimal}

-- the numbers, each behind one space, and the line's end
abbrev pub numbers_behind : List ℕ → List ℕ
numbers_behind [] = 10 ∷ []
numbers_behind (n ∷ numbers) = 32 ∷ (decimal n ++ numbers_behind numbers)

-- a line of a word and numbers
abbrev pub line : List ℕ → List ℕ → List ℕ
line word numbers = word ++ numbers_behind numbers
