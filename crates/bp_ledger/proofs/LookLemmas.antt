-- No leaf below a node has fewer rooms left than the node keeps, and how the first with too few is found.
use Rattle.std.proofs.Common.{
  ◌≡◌,
  ◌≢◌,
  ℕ,
  zero,
  ◌+◌,
  ◌-◌,
  ◌*◌,
  ◌/◌,
  ◌%◌,
  ◌^◌,
  ◌<◌,
  ◌≤◌,
  ◌∙◌,
  suc,
  min,
  ap,
  sym,
  subst,
  refl,
  arith,
  List,
  length,
  slice_index,
  inl,
  inr,
}
use Rattle.std.proofs.lemmas.Bool.{cases_lt, cases_eq}
use Rattle.bp_ledger.specs.Tree.{width, above, IsOnLevel, on_way, over, kept_at, left_on, IsInner}
use Rattle.bp_ledger.proofs.LevelLemmas.{above_half, above_mono, above_small, width_some, width_half, width_mono, on_level_half, level_step, way_over}
use Rattle.bp_ledger.proofs.WalkLemmas.{IsAcross, across_start, across_step, not_root}

-- the amounts on the way from a leaf, so many levels up
abbrev pub part : ℕ → List ℕ → ℕ → ℕ
part zero amounts m = slice_index amounts m
part (suc i) amounts m = part i amounts m + slice_index amounts (above (suc i) m)

-- a way is its lower part and the amounts over that
pub way_split : (i j h : ℕ) (a : List ℕ) (m : ℕ) → j + i ≡ h → on_way h a m ≡ part i a m + over j a (above i m)
way_split zero j h a m sum =
    let e : h ≡ j = omega arith in
    ap (λ k. on_way k a m) e ∙ way_over j a m
way_split (suc i) j h a m sum =
    let below = way_split i (suc j) h a m (omega arith) in
    let here = way_over j a (above i m / 2) in
    omega arith

pub above_some : (i h m : ℕ) → IsOnLevel h m → i ≤ h → 1 ≤ above i m
above_some zero h m is g = let w = width_some h in let e = is.0 in omega arith
above_some (suc i) zero m is g = absurd (omega arith)
above_some (suc i) (suc h) m is g = let P : ℕ → Type 0 = λ k. 1 ≤ k in subst P (above_half i m) (above_some i h (m / 2) (on_level_half h m is) (omega arith))

pub above_inner : (i h m : ℕ) → IsOnLevel h m → above (suc i) m < width h
above_inner i h m is = let e = above_small i m in let f = is.1 in omega arith

pub least_low : (i h : ℕ) (leasts amounts : List ℕ) (m : ℕ) → IsOnLevel h m → i ≤ h → IsInner h leasts amounts 0 0 →
    kept_at leasts amounts (above i m) ≤ slice_index leasts m - part i amounts m
least_low zero h leasts amounts m on g inner = omega arith
least_low (suc i) h leasts amounts m on g inner =
    let c : ℕ = above (suc i) m in
    let some = above_some (suc i) h m on g in
    let small_ = above_inner i h m on in
    let e = inner c some small_ (omega arith) (omega arith) in
    let before = least_low i h leasts amounts m on (omega arith) inner in
    elim (cases_eq (above i m) (2 * c)) [
      | inl even ↦ let f : kept_at leasts amounts (above i m) ≡ kept_at leasts amounts (2 * c) = ap (λ k. kept_at leasts amounts k) even in omega arith
      | inr odd ↦
          let o : above i m ≡ 2 * c + 1 = omega arith in
          let f : kept_at leasts amounts (above i m) ≡ kept_at leasts amounts (2 * c + 1) = ap (λ k. kept_at leasts amounts k) o in
          omega arith
    ]

-- a leaf below a node has left what the node has, less the amounts over it
pub has_below : (i j h : ℕ) (leasts amounts : List ℕ) (m p units : ℕ) → j + i ≡ h → IsOnLevel h m → IsInner h leasts amounts 0 0 → above i m ≡ p →
    units ≤ kept_at leasts amounts p - over j amounts p →
    units ≤ left_on h leasts amounts m
has_below i j h leasts amounts m p units sum on inner at enough =
    let low = least_low i h leasts amounts m on (omega arith) inner in
    let split = way_split i j h amounts m sum in
    let f : kept_at leasts amounts (above i m) ≡ kept_at leasts amounts p = ap (λ k. kept_at leasts amounts k) at in
    let g : over j amounts (above i m) ≡ over j amounts p = ap (λ k. over j amounts k) at in
    omega arith

-- the amounts over a child
pub over_child : (j k : ℕ) (a : List ℕ) (p c : ℕ) → k ≡ suc j → c / 2 ≡ p → over k a c ≡ slice_index a p + over j a p
over_child j k a p c e half =
    let P : ℕ → Type 0 = λ x. over x a c ≡ slice_index a p + over j a p in
    let Q : ℕ → Type 0 = λ x. on_way j a x ≡ slice_index a p + over j a p in
    subst P (sym e) (subst Q (sym half) (way_over j a p))

-- the walk that looks: no leaf that was passed has less left
pub record IsLooking (h low high : ℕ) (leasts amounts : List ℕ) (left right left_least right_least : ℕ) : Type 0 where
  pub across : IsAcross h low high left right
  pub on_left : (m : ℕ) → low < m → m < high → above across.risen m ≡ left → left_least ≤ slice_index leasts m - part across.risen amounts m
  pub on_right : (m : ℕ) → low < m → m < high → above across.risen m ≡ right → right_least ≤ slice_index leasts m - part across.risen amounts m

pub look_start : (h low high : ℕ) (leasts amounts : List ℕ) (x y : ℕ) → low < high → IsOnLevel h low → IsOnLevel h high →
    IsLooking h low high leasts amounts low high x y
look_start h low high leasts amounts x y lt on_low on_high = record {
  across = across_start h low high lt on_low on_high;
  on_left = λ m f t e. absurd (omega arith);
  on_right = λ m f t e. absurd (omega arith);
}

pub look_step : (h low high : ℕ) (leasts amounts : List ℕ) (left right x y x2 y2 x3 y3 : ℕ) → IsOnLevel h low → IsOnLevel h high →
    IsInner h leasts amounts 0 0 →
    IsLooking h low high leasts amounts left right x y → left / 2 ≢ right / 2 →
    x2 ≤ x → (left % 2 ≡ 0 → x2 ≤ kept_at leasts amounts (left + 1)) → y2 ≤ y → (right % 2 ≡ 1 → y2 ≤ kept_at leasts amounts (right - 1)) →
    x3 ≡ x2 - slice_index amounts (left / 2) → y3 ≡ y2 - slice_index amounts (right / 2) →
    IsLooking h low high leasts amounts (left / 2) (right / 2) x3 y3
look_step h low high leasts amounts left right x y x2 y2 x3 y3 on_low on_high inner is apart xo xe yo ye x3e y3e =
    let i : ℕ = is.across.risen in
    let li = is.across.left_is in
    let ri = is.across.right_is in
    let lr = is.across.ordered in
    let sum = is.across.sum in
    let on = λ (m : ℕ) (f : low < m) (t : m < high). let r : IsOnLevel h m = (omega arith, omega arith) in r in
    record {
      across = across_step h low high left right is.across apart;
      on_left = λ m f t e.
          let lo = above_mono i low m (omega arith) in
          let up : slice_index amounts (above i m / 2) ≡ slice_index amounts (left / 2) = ap (λ k. slice_index amounts k) e in
          elim (cases_eq (above i m) left) [
            | inl same ↦ let was = is.on_left m f t same in omega arith
            | inr other ↦
                let s : above i m ≡ left + 1 = omega arith in
                let least = least_low i h leasts amounts m (on m f t) (omega arith) inner in
                let k : kept_at leasts amounts (above i m) ≡ kept_at leasts amounts (left + 1) = ap (λ j. kept_at leasts amounts j) s in
                let even = xe (omega arith) in
                omega arith
          ];
      on_right = λ m f t e.
          let hi = above_mono i m high (omega arith) in
          let up : slice_index amounts (above i m / 2) ≡ slice_index amounts (right / 2) = ap (λ k. slice_index amounts k) e in
          elim (cases_eq (above i m) right) [
            | inl same ↦ let was = is.on_right m f t same in omega arith
            | inr other ↦
                let s : above i m ≡ right - 1 = omega arith in
                let least = least_low i h leasts amounts m (on m f t) (omega arith) inner in
                let k : kept_at leasts amounts (above i m) ≡ kept_at leasts amounts (right - 1) = ap (λ j. kept_at leasts amounts j) s in
                let odd = ye (omega arith) in
                omega arith
          ];
    }

-- from where the two have met, up to the root
pub record IsClimbing (h low high : ℕ) (leasts amounts : List ℕ) (left least : ℕ) : Type 0 where
  pub risen : ℕ
  pub level : ℕ
  pub sum : level + risen ≡ h
  pub on_left : IsOnLevel level left
  pub below : (m : ℕ) → low < m → m < high → (above risen m / 2 ≡ left / 2) × (least ≤ slice_index leasts m - part risen amounts m)

pub look_met : (h low high : ℕ) (leasts amounts : List ℕ) (left right x y z : ℕ) → IsLooking h low high leasts amounts left right x y → left / 2 ≡ right / 2 →
    z ≡ min x y →
    IsClimbing h low high leasts amounts left z
look_met h low high leasts amounts left right x y z is met e =
    let i : ℕ = is.across.risen in
    let li = is.across.left_is in
    let ri = is.across.right_is in
    let lr = is.across.ordered in
    record {
      risen = i;
      level = is.across.level;
      sum = is.across.sum;
      on_left = is.across.on_left;
      below = λ m f t.
          let lo = above_mono i low m (omega arith) in
          let hi = above_mono i m high (omega arith) in (
            (omega arith),
            (elim (cases_eq (above i m) left) [
              | inl same ↦ let was = is.on_left m f t same in omega arith
              | inr other ↦ let was = is.on_right m f t (omega arith) in omega arith
            ]),
          );
    }

-- a node that is not the root has a level above it
above_root : (level p : ℕ) → IsOnLevel level p → 1 < p → 1 ≤ level
above_root zero p on some = absurd (omega arith)
above_root (suc level) p on some = omega arith

root_level : (level p : ℕ) → IsOnLevel level p → p ≤ 1 → level ≡ 0
root_level zero p on small_ = refl
root_level (suc level) p on small_ = absurd (let w = width_some level in omega arith)

pub climb_step : (h low high : ℕ) (leasts amounts : List ℕ) (left z z2 : ℕ) → IsClimbing h low high leasts amounts left z → 1 < left →
    z2 ≡ z - slice_index amounts (left / 2) →
    IsClimbing h low high leasts amounts (left / 2) z2
climb_step h low high leasts amounts left z z2 is some e =
    let root = above_root is.level left is.on_left some in
    let sum = is.sum in
    record {
      risen = suc is.risen;
      level = is.level - 1;
      sum = omega arith;
      on_left = level_step (is.level - 1) is.level left (omega arith) is.on_left;
      below = λ m f t.
          let was = is.below m f t in
          let w0 = was.0 in
          let w1 = was.1 in
          let up : slice_index amounts (above is.risen m / 2) ≡ slice_index amounts (left / 2) = ap (λ k. slice_index amounts k) w0 in
          ((ap (λ k. k / 2) w0), (omega arith));
    }

pub climb_done : (h low high : ℕ) (leasts amounts : List ℕ) (left z : ℕ) → IsClimbing h low high leasts amounts left z → left ≤ 1 → (m : ℕ) → low < m →
    m < high → z ≤ left_on h leasts amounts m
climb_done h low high leasts amounts left z is end = λ m f t.
    let level = root_level is.level left is.on_left end in
    let sum = is.sum in
    let was = (is.below m f t).1 in
    let all = way_split is.risen is.level h amounts m is.sum in
    let none : over is.level amounts (above is.risen m) ≡ 0 = ap (λ k. over k amounts (above is.risen m)) level in
    omega arith
