-- What stands in a field: spaces at its ends, numbers and codes.
use Rattle.std.specs.Prelude.{ℕ, Bool, ◌&&◌, ◌||◌, ◌==◌, if◌then◌else◌, List, [], ◌∷◌, length, reverse, Option, Some, None}
use Rattle.std.specs.List.{list_all}
use Rattle.std.specs.Str.{all_ascii_digits}
use Rattle.bp_types.specs.declared.limits.TheConstants.{MOST_CODE}
use Rattle.bp_hotelfile.specs.Numbers.{number, is_between}

-- without the spaces at the front
abbrev pub without_front : List ℕ → List ℕ
without_front [] = []
without_front (c ∷ cs) = if c == 32 then without_front cs else c ∷ cs

-- without the spaces at both ends
abbrev pub stripped : List ℕ → List ℕ
stripped t = reverse (without_front (reverse (without_front t)))

-- a number: 1 to 18 decimal digits
abbrev pub number_of : List ℕ → Option ℕ
number_of t = if is_between 1 18 (length t) && all_ascii_digits t then Some (number t) else None

-- a letter, a digit, or one of . _ -
abbrev pub is_code_byte : ℕ → Bool
is_code_byte c =
    is_between 65 90 c || is_between 97 122 c || is_between 48 57 c || (c == 46) || (c == 95) || (c == 45)

-- some of these, and not too many
abbrev pub is_code : List ℕ → Bool
is_code t = is_between 1 MOST_CODE (length t) && list_all is_code_byte t
