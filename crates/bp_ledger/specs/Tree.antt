-- A segment (interval) tree with lazy amounts: a complete binary tree over the nights, its nodes numbered from the root
-- (1) downward, so that the children of p are 2 p and 2 p + 1.
use Rattle.std.specs.Prelude.{◌≡◌, ℕ, zero, ◌+◌, ◌-◌, ◌*◌, ◌/◌, ◌%◌, ◌^◌, ◌<◌, ◌≤◌, suc, min, ◌≢◌, ◌⊎◌, ◌==◌, cond, List, length, map, slice_index, slice_set}
use Rattle.std.specs.List.{range_with_len}

-- the nodes on a level: so many levels below the root
abbrev pub width : ℕ → ℕ
width zero = 1
width (suc h) = width h + width h

-- a node so many levels below the root
abbrev pub IsOnLevel : ℕ → ℕ → Type 0
IsOnLevel h m = (width h ≤ m) × (m < width h + width h)

-- the node so many levels above
abbrev pub above : ℕ → ℕ → ℕ
above zero m = m
above (suc i) m = above i m / 2

-- the amounts on the way from a node to the root
abbrev pub on_way : ℕ → List ℕ → ℕ → ℕ
on_way zero amounts m = slice_index amounts m
on_way (suc h) amounts m = slice_index amounts m + on_way h amounts (m / 2)

-- the amounts above a node, without its own
abbrev pub over : ℕ → List ℕ → ℕ → ℕ
over zero amounts m = 0
over (suc h) amounts m = on_way h amounts (m / 2)

-- the leaf of a night, with a leaf before the first and one after the last
abbrev pub leaf : ℕ → ℕ → ℕ
leaf levels n = width levels + n + 1

-- the sold rooms of each night: what its way to the root is still to give
abbrev pub sold_in : ℕ → List ℕ → ℕ → List ℕ
sold_in levels amounts nights = map (λ n. on_way levels amounts (leaf levels n)) (range_with_len 0 nights)

-- what is left below a node once its own amount is taken
abbrev pub kept_at : List ℕ → List ℕ → ℕ → ℕ
kept_at leasts amounts p = slice_index leasts p - slice_index amounts p

-- the least of what is left below the two children of a node
abbrev pub least_at : List ℕ → List ℕ → ℕ → ℕ
least_at leasts amounts p = min (kept_at leasts amounts (2 * p)) (kept_at leasts amounts (2 * p + 1))

-- a node has the least of what is left below its two children
abbrev pub IsLeastAt : List ℕ → List ℕ → ℕ → Type 0
IsLeastAt leasts amounts p = slice_index leasts p ≡ least_at leasts amounts p

-- so it is at each inner node, but perhaps at two
abbrev pub IsInner : ℕ → List ℕ → List ℕ → ℕ → ℕ → Type 0
IsInner h leasts amounts x y = (p : ℕ) → 1 ≤ p → p < width h → p ≢ x → p ≢ y → IsLeastAt leasts amounts p

-- the leaves have what they had
abbrev pub SameLeaves : ℕ → List ℕ → List ℕ → Type 0
SameLeaves h was now = (m : ℕ) → width h ≤ m → slice_index now m ≡ slice_index was m

-- what was taken: each leaf between two has so much more to give, and no other leaf
pub record IsTaken (h low high units : ℕ) (was now : List ℕ) : Type 0 where
  pub len : length now ≡ length was
  pub between : (m : ℕ) → low < m → m < high → on_way h now m ≡ on_way h was m + units
  pub before : (m : ℕ) → IsOnLevel h m → m ≤ low → on_way h now m ≡ on_way h was m
  pub past : (m : ℕ) → IsOnLevel h m → high ≤ m → on_way h now m ≡ on_way h was m

-- each way keeps what it has to give
pub record SameWays (h : ℕ) (was now : List ℕ) : Type 0 where
  pub len : length now ≡ length was
  pub ways : (m : ℕ) → IsOnLevel h m → on_way h now m ≡ on_way h was m

-- the amount of a node is at both its children, and no other amount has changed
pub record IsPushed (p : ℕ) (was now : List ℕ) : Type 0 where
  pub len : length now ≡ length was
  pub here : slice_index now p ≡ 0
  pub left : slice_index now (2 * p) ≡ slice_index was (2 * p) + slice_index was p
  pub right : slice_index now (2 * p + 1) ≡ slice_index was (2 * p + 1) + slice_index was p
  pub others : (k : ℕ) → k ≢ p → k ≢ 2 * p → k ≢ 2 * p + 1 → slice_index now k ≡ slice_index was k

-- what the neighbour to the right is given: the units where the node is a left child, otherwise none
unfoldable pub share_left : ℕ → ℕ → ℕ
share_left node units = cond (node % 2 == 0) units 0

-- what the neighbour to the left is given: the units where the node is a right child, otherwise none
unfoldable pub share_right : ℕ → ℕ → ℕ
share_right node units = cond (node % 2 == 0) 0 units

-- what a node on the level of two is given between them: the units, at the one's right neighbour or at the other's left one
abbrev pub IsShare : ℕ → ℕ → ℕ → ℕ → ℕ → Type 0
IsShare left right units p gain =
    ((p ≡ left + 1) × (2 * (left / 2) ≡ left) × (gain ≡ units)) ⊎
    (((p ≡ right - 1) × (2 * (right / 2) + 1 ≡ right) × (gain ≡ units)) ⊎
    ((p ≡ left + 1 → 2 * (left / 2) + 1 ≡ left) × (p ≡ right - 1 → 2 * (right / 2) ≡ right) × (gain ≡ 0)))

-- each node of the second list has its share between two nodes more than in the first
pub record IsShared (left right units : ℕ) (less more : List ℕ) : Type 0 where
  pub len : length more ≡ length less
  pub shares : (p : ℕ) → (gain : ℕ) × ((slice_index more p ≡ slice_index less p + gain) × IsShare left right units p gain)

-- the nodes that cover the leaves between two have so much to give back, on each level
abbrev pub IsAmple : ℕ → ℕ → ℕ → List ℕ → Type 0
IsAmple low high units amounts = (i : ℕ) → above i low / 2 ≢ above i high / 2 →
    (share_left (above i low) units ≤ slice_index amounts (above i low + 1)) × (share_right (above i high) units ≤ slice_index amounts (above i high - 1))

-- the rooms left on the night of a leaf
abbrev pub left_on : ℕ → List ℕ → List ℕ → ℕ → ℕ
left_on h leasts amounts m = slice_index leasts m - on_way h amounts m

-- the fields of a ledger agree
pub record IsTree (levels : ℕ) (leaves_from : ℕ) (rooms : List ℕ) (leasts : List ℕ) (amounts : List ℕ) : Type 0 where
  pub from_is : leaves_from ≡ width levels
  pub roomy : length rooms + 2 ≤ width levels
  pub leasts_len : length leasts ≡ width levels + width levels
  pub amounts_len : length amounts ≡ width levels + width levels
  pub small : (n : ℕ) → n < length rooms → slice_index rooms n < 2 ^ 64
  pub fits : (m : ℕ) → IsOnLevel levels m → on_way levels amounts m < 2 ^ 64
  pub within : (n : ℕ) → n < length rooms → on_way levels amounts (leaf levels n) ≤ slice_index rooms n
  pub leaves : (n : ℕ) → n < length rooms → slice_index leasts (leaf levels n) ≡ slice_index rooms n
  pub inner : IsInner levels leasts amounts 0 0
