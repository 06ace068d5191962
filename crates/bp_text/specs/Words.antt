-- A line as words, apart by one space each.
use Rattle.std.specs.Prelude.{◌≡◌, ◌≢◌, ℕ, ◌<◌, ◌≤◌, ◌==◌, if◌then◌else◌, List, [], ◌∷◌, ◌++◌, map, All, MatchBool}
use Rattle.std.specs.List.{flat_map}
use Rattle.bp_text.specs.Numbers.{spelled}
use Rattle.bp_text.specs.declared.words.Counted.{Counted}

-- bytes, without a space where they stand on a line
abbrev pub Word : Type 0
Word = List ℕ

-- no space in a word
abbrev pub HasNoSpace : Word → Type 0
HasNoSpace word = All (λ b. b ≢ 32) word

-- each word behind one space
abbrev pub words_behind : List Word → List ℕ
words_behind words = flat_map (λ w. 32 ∷ w) words

-- a first word, and the others behind it
abbrev pub joined : Word → List Word → List ℕ
joined first words = first ++ words_behind words

-- a word and numbers, as words
abbrev pub phrase : Word → List ℕ → List Word
phrase word numbers = word ∷ map spelled numbers

-- a byte in front of the first word
abbrev pub in_front : ℕ → List Word → List Word
in_front b [] = (b ∷ []) ∷ []
in_front b (w ∷ ws) = (b ∷ w) ∷ ws

-- the words of a line
abbrev pub split : List ℕ → List Word
split [] = [] ∷ []
split (b ∷ bs) = if b == 32 then [] ∷ split bs else in_front b (split bs)

-- what is counted of a number: that it is above the greatest, or the number itself
abbrev pub IsCounted : ℕ → ℕ → Counted → Type 0
IsCounted greatest n counted = (counted.value ≤ greatest) × MatchBool counted.great (greatest < n) ((n ≤ greatest) × (counted.value ≡ n))
