-- The walk to the first leaf with fewer rooms left than the units: up from the leaf before, and down, the left child first.
use Rattle.std.proofs.Common.{
  ◌≡◌,
  ◌≢◌,
  ℕ,
  zero,
  ◌+◌,
  ◌-◌,
  ◌*◌,
  ◌/◌,
  ◌%◌,
  ◌^◌,
  ◌<◌,
  ◌≤◌,
  ◌∙◌,
  suc,
  min,
  ap,
  sym,
  subst,
  refl,
  arith,
  List,
  length,
  slice_index,
  inl,
  inr,
}
use Rattle.std.proofs.lemmas.Bool.{cases_lt, cases_eq}
use Rattle.bp_ledger.specs.Tree.{width, above, IsOnLevel, on_way, over, kept_at, left_on, IsInner}
use Rattle.bp_ledger.proofs.LevelLemmas.{above_half, above_mono, width_some, width_half, width_mono, level_step, way_over}
use Rattle.bp_ledger.proofs.WalkLemmas.{not_root}
use Rattle.bp_ledger.proofs.LookLemmas.{has_below, over_child}

-- going down: the node has fewer left, and what lies before it below the first node has not
pub record IsDescending (h top first level at sum units : ℕ) (leasts amounts : List ℕ) : Type 0 where
  pub down : ℕ
  pub down_is : top + down ≡ level
  pub on : IsOnLevel level at
  pub below : above down at ≡ first
  pub sum_is : sum ≡ min (over level amounts at) 18446744073709551615
  pub short : kept_at leasts amounts at - over level amounts at < units
  pub before : (m : ℕ) → IsOnLevel h m → above (h - top) m ≡ first → above (h - level) m < at → units ≤ left_on h leasts amounts m

pub descend_start : (h top first sum units : ℕ) (leasts amounts : List ℕ) → IsOnLevel top first → sum ≡ over top amounts first → sum < 18446744073709551616 →
    kept_at leasts amounts first - sum < units → IsDescending h top first top first sum units leasts amounts
descend_start h top first sum units leasts amounts on sum_is small_ short = record {
  down = 0;
  down_is = omega arith;
  on = on;
  below = refl;
  sum_is = omega arith;
  short = omega arith;
  before = λ m lm at lt. absurd (omega arith);
}

on_child : (level p c : ℕ) → IsOnLevel level p → c / 2 ≡ p → IsOnLevel (suc level) c
on_child level p c on half = (omega arith, omega arith)

-- a child that has fewer left
pub descend_child : (h top first level at sum units next sum2 : ℕ) (leasts amounts : List ℕ) (is : IsDescending h top first level at sum units leasts amounts)
    → level < h → next / 2 ≡ at →
    sum2 ≡ min (sum + slice_index amounts at) 18446744073709551615 →
    kept_at leasts amounts next - (slice_index amounts at + over level amounts at) < units →
    ((m : ℕ) → IsOnLevel h m → above (h - (level + 1)) m / 2 ≡ at → above (h - (level + 1)) m < next → units ≤ left_on h leasts amounts m) →
    IsDescending h top first (level + 1) next sum2 units leasts amounts
descend_child h top first level at sum units next sum2 leasts amounts is lower half sum2_is short before =
    let e : level + 1 ≡ suc level = omega arith in
    let d = is.down_is in
    let child = over_child level (level + 1) amounts at next e half in
    let was = is.sum_is in
    let below : above (suc is.down) next ≡ first = sym (above_half is.down next) ∙ ap (λ k. above is.down k) half ∙ is.below in
    record {
      down = suc is.down;
      down_is = omega arith;
      on = let P : ℕ → Type 0 = λ k. IsOnLevel k next in subst P (sym e) (on_child level at next is.on half);
      below = below;
      sum_is = omega arith;
      short = omega arith;
      before = λ m lm under lt.
          let up : above (h - level) m ≡ above (h - (level + 1)) m / 2 = ap (λ k. above k m) (let r : h - level ≡ suc (h - (level + 1)) = omega arith in r) in
          elim (cases_lt (above (h - level) m) at) [
            | inl earlier ↦ is.before m lm under earlier
            | inr here ↦ before m lm (omega arith) lt
          ];
    }

pub descend_left : (h top first level at sum units sum2 : ℕ) (leasts amounts : List ℕ) → IsDescending h top first level at sum units leasts amounts →
    level < h →
    sum2 ≡ min (sum + slice_index amounts at) 18446744073709551615 → kept_at leasts amounts (at * 2) < 18446744073709551616 →
    kept_at leasts amounts (at * 2) - sum2 < units →
    IsDescending h top first (level + 1) (at * 2) sum2 units leasts amounts
descend_left h top first level at sum units sum2 leasts amounts is lower sum2_is small_ short =
    let was = is.sum_is in
    descend_child h top first level at sum units (at * 2) sum2 leasts amounts is lower (omega arith) sum2_is (omega arith)
    (λ m lm half lt. absurd (omega arith))

pub descend_right : (h top first level at sum units sum2 : ℕ) (leasts amounts : List ℕ) → IsDescending h top first level at sum units leasts amounts →
    level < h → IsInner h leasts amounts 0 0 →
    sum2 ≡ min (sum + slice_index amounts at) 18446744073709551615 → kept_at leasts amounts (at * 2) < 18446744073709551616 →
    units ≤ kept_at leasts amounts (at * 2) - sum2 →
    IsDescending h top first (level + 1) (at * 2 + 1) sum2 units leasts amounts
descend_right h top first level at sum units sum2 leasts amounts is lower inner sum2_is small_ enough =
    let was = is.sum_is in
    let on = is.on in
    let some = width_some level in
    let wide = width_half level (level + 1) (omega arith) in
    let more = width_mono (level + 1) h (omega arith) in
    let least = inner at (omega arith) (omega arith) (omega arith) (omega arith) in
    let short = is.short in
    let two : 2 * at ≡ at * 2 = omega arith in
    let left : kept_at leasts amounts (2 * at) ≡ kept_at leasts amounts (at * 2) = ap (λ k. kept_at leasts amounts k) two in
    let right : kept_at leasts amounts (2 * at + 1) ≡ kept_at leasts amounts (at * 2 + 1) = ap (λ k. kept_at leasts amounts (k + 1)) two in
    let child = over_child level (level + 1) amounts at (at * 2) (omega arith) (omega arith) in
    descend_child h top first level at sum units (at * 2 + 1) sum2 leasts amounts is lower (omega arith) sum2_is (omega arith)
    (λ m lm half lt. has_below (h - (level + 1)) (level + 1) h leasts amounts m (at * 2) units (omega arith) lm inner (omega arith) (omega arith))

pub record IsFirstBelow (h top first result units : ℕ) (leasts amounts : List ℕ) : Type 0 where
  pub below : above (h - top) result ≡ first
  pub before : (m : ℕ) → IsOnLevel h m → above (h - top) m ≡ first → m < result → units ≤ left_on h leasts amounts m
  pub short : left_on h leasts amounts result < units

pub descend_done : (h top first level at sum units : ℕ) (leasts amounts : List ℕ) → IsDescending h top first level at sum units leasts amounts → level ≡ h →
    IsFirstBelow h top first at units leasts amounts
descend_done h top first level at sum units leasts amounts is end =
    let d = is.down_is in
    let down : is.down ≡ h - top = omega arith in
    let none : h - level ≡ 0 = omega arith in
    let all = way_over h amounts at in
    let over_is : over level amounts at ≡ over h amounts at = ap (λ k. over k amounts at) end in
    let s = is.short in
    record {
      below = sym (ap (λ k. above k at) down) ∙ is.below;
      before = λ m lm under lt. is.before m lm under (let e : above (h - level) m ≡ m = ap (λ k. above k m) none in omega arith);
      short = omega arith;
    }

-- going up: no leaf below the node on the way that lies between the two has fewer left
pub record IsAscending (h low high level left right higher units : ℕ) (leasts amounts : List ℕ) : Type 0 where
  pub risen : ℕ
  pub sum : level + risen ≡ h
  pub left_is : left ≡ above risen low
  pub right_is : right ≡ above risen high
  pub on_left : IsOnLevel level left
  pub on_right : IsOnLevel level right
  pub ordered : left ≤ right
  pub higher_is : higher ≡ over level amounts left
  pub has : (m : ℕ) → low < m → m < high → above risen m ≡ left → units ≤ left_on h leasts amounts m

pub ascend_start : (h low high higher units : ℕ) (leasts amounts : List ℕ) → low < high → IsOnLevel h low → IsOnLevel h high →
    higher ≡ on_way h amounts low - slice_index amounts low →
    IsAscending h low high h low high higher units leasts amounts
ascend_start h low high higher units leasts amounts lt on_low on_high higher_is =
    let all = way_over h amounts low in
    record {
      risen = 0;
      sum = omega arith;
      left_is = refl;
      right_is = refl;
      on_left = on_low;
      on_right = on_high;
      ordered = omega arith;
      higher_is = omega arith;
      has = λ m f t e. absurd (omega arith);
    }

-- the amounts over a node are those over its parent and the parent's own
pub over_parent : (h low high level left right higher units : ℕ) (leasts amounts : List ℕ) →
    IsAscending h low high level left right higher units leasts amounts → left < right →
    (1 ≤ level) × (higher ≡ slice_index amounts (left / 2) + over (level - 1) amounts (left / 2))
over_parent h low high level left right higher units leasts amounts is lt =
    let some = not_root level left right is.on_left is.on_right lt in
    let e = over_child (level - 1) level amounts (left / 2) left (omega arith) refl in
    let f = is.higher_is in
    (some, omega arith)

-- the node beside has as much over it
pub over_beside : (h low high level left right higher units : ℕ) (leasts amounts : List ℕ) →
    IsAscending h low high level left right higher units leasts amounts → left < right → left % 2 ≡ 0 →
    (IsOnLevel level (left + 1)) × (higher ≡ over level amounts (left + 1))
over_beside h low high level left right higher units leasts amounts is lt even =
    let parent = over_parent h low high level left right higher units leasts amounts is lt in
    let some = parent.0 in
    let e = parent.1 in
    let f = over_child (level - 1) level amounts (left / 2) (left + 1) (omega arith) (omega arith) in
    let on_left = is.on_left in
    let on_right = is.on_right in
    ((omega arith, omega arith), omega arith)

pub ascend_step : (h low high level left right higher units : ℕ) (leasts amounts : List ℕ) →
    IsAscending h low high level left right higher units leasts amounts → IsOnLevel h low → IsOnLevel h high →
    IsInner h leasts amounts 0 0 → left < right → (left % 2 ≡ 0 → units ≤ kept_at leasts amounts (left + 1) - higher) →
    IsAscending h low high (level - 1) (left / 2) (right / 2) (higher - slice_index amounts (left / 2)) units leasts amounts
ascend_step h low high level left right higher units leasts amounts is on_low on_high inner lt enough =
    let parent = over_parent h low high level left right higher units leasts amounts is lt in
    let some = parent.0 in
    let over_is = parent.1 in
    let sum = is.sum in
    let li = is.left_is in
    let ri = is.right_is in
    let on = λ (m : ℕ) (f : low < m) (t : m < high). let r : IsOnLevel h m = (omega arith, omega arith) in r in
    let e : level ≡ suc (level - 1) = omega arith in
    record {
      risen = suc is.risen;
      sum = omega arith;
      left_is = ap (λ k. k / 2) li;
      right_is = ap (λ k. k / 2) ri;
      on_left = level_step (level - 1) level left e is.on_left;
      on_right = level_step (level - 1) level right e is.on_right;
      ordered = omega arith;
      higher_is = omega arith;
      has = λ m f t half.
          let lo = above_mono is.risen low m (omega arith) in
          elim (cases_eq (above is.risen m) left) [
            | inl same ↦ is.has m f t same
            | inr other ↦
                let even : left % 2 ≡ 0 = omega arith in
                let beside = over_beside h low high level left right higher units leasts amounts is lt even in
                let o = beside.1 in
                let k = enough even in
                has_below is.risen level h leasts amounts m (left + 1) units (omega arith) (on m f t) inner (omega arith) (omega arith)
          ];
    }

-- where both ways have met, each leaf between has the units
pub ascend_done : (h low high level left right higher units : ℕ) (leasts amounts : List ℕ) →
    IsAscending h low high level left right higher units leasts amounts → right ≤ left →
    (m : ℕ) → low < m → m < high → units ≤ left_on h leasts amounts m
ascend_done h low high level left right higher units leasts amounts is end = λ m f t.
    let li = is.left_is in
    let ri = is.right_is in
    let lo = above_mono is.risen low m (omega arith) in
    let hi = above_mono is.risen m high (omega arith) in
    is.has m f t (omega arith)

-- the first leaf below the node beside is the first between
pub ascend_found : (h low high level left right higher units result : ℕ) (leasts amounts : List ℕ) →
    IsAscending h low high level left right higher units leasts amounts → IsOnLevel h low → IsOnLevel h high →
    IsFirstBelow h level (left + 1) result units leasts amounts →
    (low < result) × ((m : ℕ) → low < m → m < high → m < result → units ≤ left_on h leasts amounts m)
ascend_found h low high level left right higher units result leasts amounts is on_low on_high found =
    let sum = is.sum in
    let li = is.left_is in
    let risen : h - level ≡ is.risen = omega arith in
    let at : above is.risen result ≡ left + 1 = sym (ap (λ k. above k result) risen) ∙ found.below in
    let after : low < result = elim (cases_lt low result) [
      | inl so ↦ so
      | inr not_so ↦ let mono = above_mono is.risen result low not_so in absurd (omega arith)
    ] in (
      after,
      λ m f t lt.
          let lo = above_mono is.risen low m (omega arith) in
          let hi = above_mono is.risen m result (omega arith) in
          elim (cases_eq (above is.risen m) left) [
            | inl same ↦ is.has m f t same
            | inr other ↦ found.before m (omega arith, omega arith) (ap (λ k. above k m) risen ∙ (let r : above is.risen m ≡ left + 1 = omega arith in r)) lt
          ],
    )
