-- The levels of the tree, and the ways from its leaves.
use Rattle.std.proofs.Common.{◌≡◌, ◌≢◌, ℕ, zero, ◌+◌, ◌-◌, ◌*◌, ◌/◌, ◌<◌, ◌≤◌, ◌∙◌, suc, ap, sym, subst, refl, arith, List, slice_index, inl, inr}
use Rattle.std.proofs.lemmas.Bool.{cases_eq}
use Rattle.bp_ledger.specs.Tree.{width, above, IsOnLevel, on_way, over}

pub above_half : (i m : ℕ) → above i (m / 2) ≡ above i m / 2
above_half zero m = refl
above_half (suc i) m = ap (λ x. x / 2) (above_half i m)

pub above_mono : (i a b : ℕ) → a ≤ b → above i a ≤ above i b
above_mono zero a b h = h
above_mono (suc i) a b h = let e = above_mono i a b h in omega arith

pub above_small : (i m : ℕ) → above i m ≤ m
above_small zero m = omega arith
above_small (suc i) m = let e = above_small i m in omega arith

-- a leaf below each node between two
pub leaf_between : (i p q c : ℕ) → above i p < c → c ≤ above i q → (m : ℕ) × ((p < m) × ((m ≤ q) × (above i m ≡ c)))
leaf_between zero p q c h g = (c, (h, (g, refl)))
leaf_between (suc i) p q c h g =
    let below = leaf_between i p q (2 * c) (omega arith) (omega arith) in
    (below.0, (below.1.0, (below.1.1.0, (let e = below.1.1.1 in omega arith))))

pub width_some : (h : ℕ) → 1 ≤ width h
width_some zero = omega arith
width_some (suc h) = let e = width_some h in omega arith

pub width_mono : (j h : ℕ) → j ≤ h → width j ≤ width h
width_mono j zero g = let e : j ≡ 0 = omega arith in rw e (omega arith)
width_mono j (suc h) g = elim (cases_eq j (suc h)) [
  | inl same ↦ rw same (omega arith)
  | inr less ↦ let e = width_mono j h (omega arith) in let w = width_some h in omega arith
]

pub on_level_half : (h m : ℕ) → IsOnLevel (suc h) m → IsOnLevel h (m / 2)
on_level_half h m is = (omega arith, omega arith)

-- one step up a way
pub way_step : (j k : ℕ) (a : List ℕ) (m : ℕ) → k ≡ suc j → on_way k a m ≡ slice_index a m + on_way j a (m / 2)
way_step j k a m e = rw e refl

pub level_step : (j k m : ℕ) → k ≡ suc j → IsOnLevel k m → IsOnLevel j (m / 2)
level_step j k m e is = let P : ℕ → Type 0 = λ x. IsOnLevel x m in on_level_half j m (subst P e is)

-- a way is the amount of its first node and those over it
pub way_over : (h : ℕ) (a : List ℕ) (m : ℕ) → on_way h a m ≡ slice_index a m + over h a m
way_over zero a m = omega arith
way_over (suc h) a m = refl

-- a way has no less than the amount at each of its nodes
pub way_has : (i h : ℕ) (a : List ℕ) (m : ℕ) → i ≤ h → slice_index a (above i m) ≤ on_way h a m
way_has zero zero a m g = omega arith
way_has zero (suc h) a m g = omega arith
way_has (suc i) zero a m g = absurd (omega arith)
way_has (suc i) (suc h) a m g =
    let P : ℕ → Type 0 = λ k. slice_index a k ≤ on_way h a (m / 2) in
    let e = subst P (above_half i m) (way_has i h a (m / 2) (omega arith)) in
    omega arith

-- a way through nodes that are the same
pub way_same : (h : ℕ) (a b : List ℕ) (m : ℕ) → ((k : ℕ) → k ≤ m → slice_index b k ≡ slice_index a k) → on_way h b m ≡ on_way h a m
way_same zero a b m same = same m (omega arith)
way_same (suc h) a b m same =
    let here = same m (omega arith) in
    let up = way_same h a b (m / 2) (λ k g. same k (omega arith)) in
    omega arith

-- where amounts change on one level alone, a way changes by its node there
pub way_change : (j i h : ℕ) (a b : List ℕ) (m : ℕ) → j + i ≡ h → IsOnLevel h m →
    ((k : ℕ) → k < width j → slice_index b k ≡ slice_index a k) → ((k : ℕ) → width j + width j ≤ k → slice_index b k ≡ slice_index a k) →
    on_way h b m + slice_index a (above i m) ≡ on_way h a m + slice_index b (above i m)
way_change j zero zero a b m sum on low high = omega arith
way_change j zero (suc h) a b m sum on low high =
    let e : j ≡ suc h = omega arith in
    let w : width j ≡ width h + width h = ap (λ k. width k) e in
    let up = way_same h a b (m / 2) (λ k g. low k (omega arith)) in
    omega arith
way_change j (suc i) zero a b m sum on low high = absurd (omega arith)
way_change j (suc i) (suc h) a b m sum on low high =
    let g : j ≤ h = omega arith in
    let w = width_mono j h g in
    let here = high m (omega arith) in
    let P : ℕ → Type 0 = λ k. on_way h b (m / 2) + slice_index a k ≡ on_way h a (m / 2) + slice_index b k in
    let up = subst P (above_half i m) (way_change j i h a b (m / 2) (omega arith) (on_level_half h m on) low high) in
    omega arith

pub width_half : (j k : ℕ) → k ≡ suc j → width k ≡ width j + width j
width_half j k e = rw e refl
