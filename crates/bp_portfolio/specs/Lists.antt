-- The list of a portfolio: the names of each hotel's five files, a line for each hotel.
use Rattle.std.specs.Prelude.{
  ◌≡◌,
  ℕ,
  zero,
  suc,
  ◌+◌,
  ◌<◌,
  ◌≤◌,
  ◌==◌,
  ◌&&◌,
  Bool,
  true,
  false,
  not,
  nat_le,
  IsTrue,
  List,
  [],
  ◌∷◌,
  ◌++◌,
  length,
  map,
  codes,
  Result,
  Ok,
  Err,
}
use Rattle.std.specs.List.{list_all}
use Rattle.bp_types.specs.declared.limits.TheConstants.{MOST_HOTELS, MOST_NAME}
use Rattle.bp_text.specs.declared.text_error.TextError.{TextError}
use Rattle.bp_text.specs.Lines.{Line, Given, GivesLine, line_of}
use Rattle.bp_text.specs.Words.{Word, joined}
use Rattle.bp_text.specs.Reading.{IsText}
use Rattle.bp_text.specs.Places.{IsRefusedLine}

-- the names of one hotel's files, in the order in which they are read
pub record FiveNames : Type 0 where
  pub hotel : Word
  pub stays : Word
  pub forecast : Word
  pub bookings : Word
  pub script : Word

-- the name at an index, from 0
abbrev pub name_at : FiveNames → ℕ → Word
name_at n zero = n.hotel
name_at n (suc zero) = n.stays
name_at n (suc (suc zero)) = n.forecast
name_at n (suc (suc (suc zero))) = n.bookings
name_at n (suc (suc (suc (suc more)))) = n.script

-- a byte that a name may have: a printed one, and no space
abbrev pub is_name_byte : ℕ → Bool
is_name_byte b = nat_le 33 b && nat_le b 126

-- a name: some of these bytes, not too many, of which the first is no `-`
abbrev pub is_name : Word → Bool
is_name [] = false
is_name (first ∷ rest) = nat_le (length (first ∷ rest)) MOST_NAME && (not (first == 45) && list_all is_name_byte (first ∷ rest))

-- each of the five is a name
abbrev pub is_named : FiveNames → Bool
is_named n = is_name n.hotel && (is_name n.stays && (is_name n.forecast && (is_name n.bookings && is_name n.script)))

-- the names behind the first
abbrev pub other_names : FiveNames → List Word
other_names n = n.stays ∷ n.forecast ∷ n.bookings ∷ n.script ∷ []

-- the line of a hotel: its names, apart by one space
abbrev pub names_line : FiveNames → Line
names_line n = joined n.hotel (other_names n)

-- hotels by the names of their files
abbrev pub Listed : Type 0
Listed = (hotels : List FiveNames) × IsTrue (list_all is_named hotels)

-- the lines before those of the hotels, of which there are so many
abbrev pub head_lines : ℕ → List Line
head_lines hotels = codes "portfolio 1" ∷ line_of (codes "hotels") (hotels ∷ []) ∷ []

-- the lines of the hotels, and the last line
abbrev pub hotel_lines : List FiveNames → List Line
hotel_lines hotels = map names_line hotels ++ codes "end" ∷ []

-- the lines of a list
abbrev pub list_lines : Listed → List Line
list_lines v = head_lines (length v.0) ++ hotel_lines v.0

-- there are so many hotels, as a portfolio may have
abbrev pub IsManyHotels : ℕ → Type 0
IsManyHotels hotels = (1 ≤ hotels) × (hotels ≤ MOST_HOTELS)

-- a list has some hotels, and not too many
abbrev pub IsPortfolio : Listed → Type 0
IsPortfolio v = IsManyHotels (length v.0)

-- the bytes are the text of this list, or they are refused at the first wrong line
abbrev pub IsListText : List ℕ → Result (List FiveNames) TextError → Type 0
IsListText bytes (Ok hotels) = (v : Listed) × (v.0 ≡ hotels) × IsText list_lines IsPortfolio bytes (Ok v)
IsListText bytes (Err e) = IsText list_lines IsPortfolio bytes (Err e)

-- a line of five names
abbrev pub IsNamesLine : Line → Type 0
IsNamesLine line = (n : FiveNames) × IsTrue (is_named n) × (line ≡ names_line n)

-- the line of a hotel was given, or why not
abbrev pub AreNamesRead : Given → Given → Result FiveNames TextError → Type 0
AreNamesRead old new (Ok n) = IsTrue (is_named n) × GivesLine old new (names_line n)
AreNamesRead old new (Err e) = IsRefusedLine IsNamesLine (λ line. Unit {0}) old new e
