-- Lists of vectors whose numbers rise.
use Rattle.std.proofs.Common.{◌≡◌, ℕ, ◌<◌, List, [], ◌∷◌, ◌++◌, length, sym, refl, ap, subst, ◌∙◌, append-nil, append_assoc}
use Rattle.bp_show.specs.Vectors.{Vector}
use Rattle.bp_show.specs.Shown.{IsPrefix, EndsIn, RisesFrom, Rises, number_or, number_shown}

pub prefix_self : (xs : List Vector) → IsPrefix xs xs
prefix_self xs = ([], sym (append-nil xs))

pub prefix_none : (xs : List Vector) → IsPrefix [] xs
prefix_none xs = (xs, refl)

pub prefix_push : (xs ys : List Vector) (v : Vector) → IsPrefix xs ys → IsPrefix xs (ys ++ v ∷ [])
prefix_push xs ys v (rest, is) = (rest ++ v ∷ [], ap (λ (l : List Vector). l ++ v ∷ []) is ∙ append_assoc xs rest (v ∷ []))

number_end : (n : ℕ) (xs : List Vector) (v : Vector) → number_or n (xs ++ v ∷ []) ≡ v.number
number_end n [] v = refl
number_end n (x ∷ xs) v = number_end x.number xs v

-- the last number is that of the vector in which the list ends
pub ends_number : (xs : List Vector) (v : Vector) → EndsIn xs v → number_shown xs ≡ v.number
ends_number xs v (before, e) = ap (number_or 0) e ∙ number_end 0 before v

-- the last vector, or else d
abbrev last_of : Vector → List Vector → Vector
last_of d [] = d
last_of d (x ∷ xs) = last_of x xs

last_end : (d : Vector) (xs : List Vector) (v : Vector) → last_of d (xs ++ v ∷ []) ≡ v
last_end d [] v = refl
last_end d (x ∷ xs) v = last_end x xs v

ends_last : (d : Vector) (xs : List Vector) (v : Vector) → EndsIn xs v → last_of d xs ≡ v
ends_last d xs v (before, e) = ap (last_of d) e ∙ last_end d before v

push_from : (u : Vector) (xs : List Vector) (w : Vector) → RisesFrom u xs → (last_of u xs).number < w.number →
    length w.prices ≡ length (last_of u xs).prices → RisesFrom u (xs ++ w ∷ [])
push_from u [] w r newer same = (newer, same, tt)
push_from u (x ∷ xs) w r newer same = (r.0, r.1, push_from x xs w r.2 newer same)

-- a newer vector may follow
pub rises_push : (all : List Vector) (v w : Vector) → Rises all → EndsIn all v → v.number < w.number → length w.prices ≡ length v.prices → Rises (all ++ w ∷ [])
rises_push [] v w r e newer same = tt
rises_push (x ∷ xs) v w r e newer same =
    let is : last_of x xs ≡ v = ends_last x (x ∷ xs) v e in
    push_from x xs w r (subst (λ (u : Vector). u.number < w.number) (sym is) newer) (same ∙ ap (λ (u : Vector). length u.prices) (sym is))

last_nights : (u : Vector) (xs : List Vector) → RisesFrom u xs → length (last_of u xs).prices ≡ length u.prices
last_nights u [] r = refl
last_nights u (x ∷ xs) r = last_nights x xs r.2 ∙ r.1

-- the last vector of a list has as many nights as that of a first part
pub same_nights : (part whole : List Vector) (v w : Vector) → Rises part → Rises whole → IsPrefix part whole → EndsIn part v → EndsIn whole w →
    length w.prices ≡ length v.prices
same_nights [] whole v w r s begins ([], e) ends = absurd (cc)
same_nights [] whole v w r s begins (b ∷ bs, e) ends = absurd (cc)
same_nights (x ∷ xs) whole v w r s (rest, is) here ends =
    let rises : RisesFrom x (xs ++ rest) = subst Rises is s in
    let there : EndsIn (x ∷ xs ++ rest) w = subst (λ (l : List Vector). EndsIn l w) is ends in
    let last_v = ends_last x (x ∷ xs) v here in
    let last_w = ends_last x (x ∷ xs ++ rest) w there in
    ap (λ (u : Vector). length u.prices) (sym last_w) ∙ last_nights x (xs ++ rest) rises ∙ sym (last_nights x xs r) ∙
    ap (λ (u : Vector). length u.prices) last_v
