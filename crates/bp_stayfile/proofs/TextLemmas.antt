-- Fields that are UTF-8, one after the other.
use Rattle.std.proofs.Common.{◌≡◌, ℕ, zero, suc, ◌+◌, ◌<◌, Bool, true, ◌&&◌, List, [], ◌∷◌, length, get_or, drop, arith}
use Rattle.std.specs.List.{list_all}
use Rattle.std.proofs.lemmas.Bool.{and_parts}
use Rattle.std.proofs.lemmas.List.{drop_more}

-- one element more
pub list_all-drop : {X : Type 0} (p : X → Bool) (xs : List X) (i : ℕ) (d : X) → i < length xs →
    list_all p (drop i xs) ≡ (p (get_or xs i d) && list_all p (drop (i + 1) xs))
list_all-drop p xs i d h = rw (drop_more xs i d h)

-- each element passes
pub list_all-at : {X : Type 0} (p : X → Bool) (xs : List X) (i : ℕ) (d : X) → list_all p xs ≡ true → i < length xs → p (get_or xs i d) ≡ true
list_all-at p [] i d all h = absurd (omega arith)
list_all-at p (x ∷ xs) zero d all h = (and_parts (p x) (list_all p xs) all).0
list_all-at p (x ∷ xs) (suc i) d all h = list_all-at p xs i d (and_parts (p x) (list_all p xs) all).1 (omega arith)
