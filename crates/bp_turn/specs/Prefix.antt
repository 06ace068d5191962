-- Prefixes of lists.
use Rattle.std.specs.Prelude.{◌≡◌, List, ◌++◌, length, nat_lt, if◌then◌else◌}

-- the whole list begins with the part
abbrev pub IsPrefix : {E : Type 0} → List E → List E → Type 0
IsPrefix {E} part whole = (rest : List E) × (whole ≡ part ++ rest)

-- the longer of two lists, and the first where they are as long
abbrev pub longer : {E : Type 0} → List E → List E → List E
longer xs ys = if nat_lt (length xs) (length ys) then ys else xs

-- the other of the two
abbrev pub shorter : {E : Type 0} → List E → List E → List E
shorter xs ys = if nat_lt (length xs) (length ys) then xs else ys
