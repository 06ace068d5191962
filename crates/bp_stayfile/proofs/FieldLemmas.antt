-- Spaces at the ends of a text.
use Rattle.std.proofs.Common.{◌≡◌, ◌≢◌, ℕ, ◌+◌, ◌<◌, ◌==◌, false, List, [], ◌∷◌, length, get_or, drop, take, reverse, arith}
use Rattle.std.proofs.lemmas.List.{drop_more, take_more, reverse-append}
use Rattle.std.proofs.lemmas.Bool.Decides.{nat_tests}
use Rattle.bp_stayfile.specs.Fields.{without_front}

-- one space more at the front
pub front_more : (t : List ℕ) (i : ℕ) → i < length t → get_or t i 0 ≡ 32 → without_front (drop i t) ≡ without_front (drop (i + 1) t)
front_more t i h space = rw (drop_more t i 0 h, space)

kept : (c : ℕ) (cs : List ℕ) → c ≢ 32 → without_front (c ∷ cs) ≡ c ∷ cs
kept c cs ink = let no : (c == 32) ≡ false = grind (arith, nat_tests) in rw no

-- no space is at the front
pub front_stays : (t : List ℕ) (i : ℕ) → i < length t → get_or t i 0 ≢ 32 → without_front (drop i t) ≡ drop i t
front_stays t i h ink = rw (drop_more t i 0 h) (kept (get_or t i 0) (drop (i + 1) t) ink)

-- one space more at the end
pub back_more : (t : List ℕ) (i j : ℕ) → i < length t → i + 1 ≡ j → get_or t i 0 ≡ 32 → without_front (reverse (take j t)) ≡ without_front (reverse (take i t))
back_more t i j h e space = rw (← e, take_more t i 0 h, space, reverse-append (take i t) (32 ∷ []))

-- no space is at the end
pub back_stays : (t : List ℕ) (i j : ℕ) → i < length t → i + 1 ≡ j → get_or t i 0 ≢ 32 → without_front (reverse (take j t)) ≡ reverse (take j t)
back_stays t i j h e ink =
    rw (← e, take_more t i 0 h, reverse-append (take i t) (get_or t i 0 ∷ [])) (kept (get_or t i 0) (reverse (take i t)) ink)
