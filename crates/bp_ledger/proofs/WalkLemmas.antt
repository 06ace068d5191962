-- The walk up from two leaves, level by level.
use Rattle.std.proofs.Common.{
  ◌≡◌,
  ◌≢◌,
  ℕ,
  zero,
  ◌+◌,
  ◌-◌,
  ◌*◌,
  ◌/◌,
  ◌%◌,
  ◌<◌,
  ◌≤◌,
  ◌∙◌,
  ◌⊎◌,
  suc,
  ap,
  sym,
  subst,
  refl,
  arith,
  List,
  length,
  slice_index,
  set,
  length-set,
  inl,
  inr,
}
use Rattle.std.proofs.lemmas.Bool.{cases_eq}
use Rattle.bp_ledger.specs.Tree.{width, above, IsOnLevel, on_way, IsTaken, share_left, share_right, IsShare, IsShared, IsAmple}
use Rattle.bp_ledger.proofs.NodeLemmas.{at_same, at_other}
use Rattle.bp_ledger.proofs.LevelLemmas.{above_mono, leaf_between, width_mono, width_some, level_step, way_has, way_change}

-- two nodes on one level, each on the way of its leaf
pub record IsAcross (h low high left right : ℕ) : Type 0 where
  pub risen : ℕ
  pub level : ℕ
  pub sum : level + risen ≡ h
  pub left_is : left ≡ above risen low
  pub right_is : right ≡ above risen high
  pub on_left : IsOnLevel level left
  pub on_right : IsOnLevel level right
  pub ordered : left < right

abbrev pub across_start : (h low high : ℕ) → low < high → IsOnLevel h low → IsOnLevel h high → IsAcross h low high low high
across_start h low high lt on_low on_high = record {
  risen = 0;
  level = h;
  sum = omega arith;
  left_is = refl;
  right_is = refl;
  on_left = on_low;
  on_right = on_high;
  ordered = lt;
}

-- two nodes of one level are not both the root
pub not_root : (level left right : ℕ) → IsOnLevel level left → IsOnLevel level right → left < right → 1 ≤ level
not_root zero left right on_left on_right lt = absurd (omega arith)
not_root (suc level) left right on_left on_right lt = omega arith

abbrev pub across_step : (h low high left right : ℕ) → IsAcross h low high left right → left / 2 ≢ right / 2 → IsAcross h low high (left / 2) (right / 2)
across_step h low high left right is apart =
    let some = not_root is.level left right is.on_left is.on_right is.ordered in
    let e : is.level ≡ suc (is.level - 1) = omega arith in
    let lt = is.ordered in
    let sum = is.sum in
    record {
      risen = suc is.risen;
      level = is.level - 1;
      sum = omega arith;
      left_is = ap (λ k. k / 2) is.left_is;
      right_is = ap (λ k. k / 2) is.right_is;
      on_left = level_step (is.level - 1) is.level left e is.on_left;
      on_right = level_step (is.level - 1) is.level right e is.on_right;
      ordered = omega arith;
    }

-- both stand in the tree
pub across_within : (h low high left right : ℕ) → IsAcross h low high left right → (left < right) × (right < width h + width h)
across_within h low high left right is =
    let w = width_mono is.level h (let s = is.sum in omega arith) in
    let on = is.on_right in
    (is.ordered, omega arith)
