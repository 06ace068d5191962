-- What a parallel map that may fail gives, collected.
use Rattle.std.proofs.Common.{◌≡◌, ◌∙◌, ℕ, ◌+◌, ◌<◌, List, [], ◌∷◌, ◌++◌, length, take, get_or, ap, sym, map, Bor, Result, Ok, Err, IfOk, MatchResult, subst}
use Rattle.std.proofs.lemmas.List.{take_more}
use Rattle.std.specs.List.{AllZip}
use Rattle.rayon.proofs.ToStd.{slice-AllZip}

oks : {X Y : Type 0} (E : Type 0) (R : X → Y → Type 0) (zs : List (Bor X)) (ys : List Y) →
    AllZip (λ (z : Bor X) (r : Result Y E). IfOk r (R z.now)) zs (map Ok ys) → AllZip (λ (z : Bor X) y. R z.now y) zs ys
oks E R [] [] h = tt
oks E R [] (y ∷ ys) h = absurd h
oks E R (z ∷ zs) [] h = absurd h
oks E R (z ∷ zs) (y ∷ ys) h = (h.0, oks E R zs ys h.1)

-- where all went well, each member is what the closure gives of its item
pub all_ok : {X Y E : Type 0} (R : X → Y → Type 0) (s : List X) (zs : List (Bor X)) (xs : List (Result Y E)) (ys : List Y) → map (λ (z : Bor X). z.now) zs ≡ s
    → AllZip (λ (z : Bor X) (r : Result Y E). IfOk r (R z.now)) zs xs → xs ≡ map Ok ys → AllZip R s ys
all_ok {E} R s zs xs ys shown h e = slice-AllZip zs s shown R ys (oks E R zs ys (subst (AllZip (λ (z : Bor _) (r : Result _ E). IfOk r (R z.now)) zs) e h))

pub where_ok : {T E : Type 0} (r : Result T E) (P S : T → Type 0) (Q : E → Type 0) → MatchResult r P Q → ((v : T) → P v → S v) → IfOk r S
where_ok (Ok v) P S Q h f = f v h
where_ok (Err e) P S Q h f = tt

-- one more on both sides
pub zip_push : {X Y : Type 0} (R : X → Y → Type 0) (xs : List X) (ys : List Y) (x : X) (y : Y) → AllZip R xs ys → R x y → AllZip R (xs ++ x ∷ []) (ys ++ y ∷ [])
zip_push R [] [] x y h r = (r, tt)
zip_push R [] (b ∷ ys) x y h r = absurd h
zip_push R (a ∷ xs) [] x y h r = absurd h
zip_push R (a ∷ xs) (b ∷ ys) x y h r = (h.0, zip_push R xs ys x y h.1 r)

-- one more member of the front of a list, and what answers it
pub zip_more : {X Y : Type 0} (R : X → Y → Type 0) (xs : List X) (ys zs : List Y) (i : ℕ) (x : X) (y : Y) → i < length xs → x ≡ get_or xs i x
    → AllZip R (take i xs) ys → R x y → zs ≡ ys ++ y ∷ [] → AllZip R (take (i + 1) xs) zs
zip_more R xs ys zs i x y within is front here more =
    let longer : take i xs ++ x ∷ [] ≡ take (i + 1) xs = ap (λ z. take i xs ++ z ∷ []) is ∙ sym (take_more xs i x within) in
    let grown = subst (λ l. AllZip R l (ys ++ y ∷ [])) longer (zip_push R (take i xs) ys x y front here) in
    subst (λ l. AllZip R (take (i + 1) xs) l) (sym more) grown
