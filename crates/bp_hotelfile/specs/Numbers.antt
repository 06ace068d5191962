-- Numbers in text.
use Rattle.std.specs.Prelude.{ℕ, Bool, ◌+◌, ◌-◌, ◌*◌, ◌&&◌, nat_le, if◌then◌else◌, ℤ, pos, negsuc, List, [], ◌∷◌, Option, Some, None}

-- the number of decimal digits that stand after digits of the number n
abbrev pub number_after : ℕ → List ℕ → ℕ
number_after n [] = n
number_after n (c ∷ cs) = number_after (10 * n + (c - 48)) cs

-- the number that decimal digits write
abbrev pub number : List ℕ → ℕ
number cs = number_after 0 cs

-- from least to most
abbrev pub is_between : ℕ → ℕ → ℕ → Bool
is_between least most n = nat_le least n && nat_le n most

-- a whole number from least to most
abbrev pub within : ℕ → ℕ → ℤ → Option ℕ
within least most (pos n) = if is_between least most n then Some n else None
within least most (negsuc n) = None
